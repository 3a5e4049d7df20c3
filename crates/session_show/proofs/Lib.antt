-- What `play` cites of the lines of a board, and what `put_board` passed.
pub mod Shows
pub mod Short
pub mod Passed
