-- Laws that the code's proofs share.
pub mod Fields
pub mod Under
