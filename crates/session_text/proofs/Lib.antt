-- What the proofs of several functions use, here and in the crates above.
pub mod Laws
