-- What the contracts of a reader cite.
pub mod Shown
