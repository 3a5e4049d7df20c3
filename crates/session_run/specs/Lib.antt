-- What the records of a session come to, as a definition, and what the contracts of the code cite.
pub mod Run
pub mod Contract
