-- The lines of a board, as a definition, and what is promised of them.
pub mod Showing
pub mod Claims
