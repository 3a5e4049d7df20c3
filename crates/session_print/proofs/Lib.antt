-- Laws that the code's proofs share, and on which the promises of crates/session_play stand.
pub mod Lent
pub mod Texts
