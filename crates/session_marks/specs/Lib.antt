-- The kinds of record and their marks (§11.2) as definitions.
pub mod Marks
