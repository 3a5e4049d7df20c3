-- Laws that proofs of the check share, here and in the crates above.
pub mod Tests
pub mod Division
