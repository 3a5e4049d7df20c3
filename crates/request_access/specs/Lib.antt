-- What the functions of an access are held to.
pub mod Contract
