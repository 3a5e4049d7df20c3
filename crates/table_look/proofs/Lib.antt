-- The laws that several proofs of this crate, and its callers, cite.
pub mod Owner
