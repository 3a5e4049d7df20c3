-- What the contracts of the code cite besides the text itself.
pub mod Contract
