-- What a record asks, as a definition.
pub mod Asking
