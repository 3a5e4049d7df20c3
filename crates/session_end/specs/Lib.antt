-- What a run comes to and how it ends, as definitions, and what the contracts of the code cite.
pub mod Run
pub mod Contract
