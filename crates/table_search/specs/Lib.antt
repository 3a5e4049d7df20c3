-- What a search for an entry answers.
pub mod Contract
