-- What the functions over a descriptor are held to.
pub mod Contract
