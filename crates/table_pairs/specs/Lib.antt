-- What two turns of the walk over the tables find and leave.
pub mod Pairs
