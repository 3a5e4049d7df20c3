-- The session file (§11) as definitions, and what is promised of them.
pub mod Session
