-- Laws that the proofs of this crate share.
pub mod After
pub mod Fed
pub mod Over
