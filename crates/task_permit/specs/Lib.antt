-- What the functions of a permit are held to.
pub mod Contract
