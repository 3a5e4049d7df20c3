-- Laws that the proofs of this crate and of its callers share.
pub mod Led
pub mod Ends
