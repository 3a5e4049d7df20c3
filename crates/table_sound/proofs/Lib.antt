-- Laws that the functions' proofs share.
pub mod Whole
