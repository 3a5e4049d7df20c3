-- Laws that the functions' proofs share, here and in the crate above.
pub mod Pairs
pub mod Owners
pub mod Found
