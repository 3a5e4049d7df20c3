-- The text of a session, as a definition, and what the contracts of the code cite.
pub mod Print
pub mod Contract
