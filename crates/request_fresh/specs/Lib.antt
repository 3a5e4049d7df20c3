-- What the functions of a new address are held to.
pub mod Contract
