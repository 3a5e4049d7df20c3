-- What the look-up answers.
pub mod Looks
