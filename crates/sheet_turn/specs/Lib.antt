-- What the contracts of the code cite besides what a byte is.
pub mod Contract
