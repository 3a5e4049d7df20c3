-- Laws of sets that are stored one after the other, and of the ways that they tell.
pub mod Parts
pub mod Closed
