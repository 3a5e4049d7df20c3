-- What splitting can answer, what is left of a session, and the promises of specs/Session.antt (Promises has them all).
pub mod Cases
pub mod Promises
pub mod Rest
pub mod Whole
