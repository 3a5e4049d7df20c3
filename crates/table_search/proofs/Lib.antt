-- The laws that several proofs of this crate, and its callers, cite.
pub mod Found
pub mod Search
