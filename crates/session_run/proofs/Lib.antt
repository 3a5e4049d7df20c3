-- Laws that the code's proofs share.
pub mod Turns
pub mod Under
