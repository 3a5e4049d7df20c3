-- The numbers of a body (§11.2) as definitions.
pub mod Fields
