-- What the public calls share.
pub mod Refusals
