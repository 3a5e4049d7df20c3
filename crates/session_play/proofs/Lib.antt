-- What the code's proof stands on, and the promises of specs/Claims.antt (Promises has them all).
pub mod Room
pub mod Reaches
pub mod Values
pub mod Short
pub mod Promises
