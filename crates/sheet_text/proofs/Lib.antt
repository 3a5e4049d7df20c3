-- Laws that the code's proofs share, then the proofs of what specs/Claims.antt says, by subject. Promises has every claim.

-- the table of widths, and numbers as bytes
pub mod Asked
pub mod Little
-- how long a session becomes, and that every number of a reader stays small
pub mod Lengths
pub mod Lasts
pub mod Small
pub mod Numbers
pub mod Buffers
-- what the code answers, by what it learnt before
pub mod Lent
-- rows are read: from the content of a field up to the whole text
pub mod Content
pub mod Feed
pub mod ReadCell
pub mod ReadRow
pub mod RowAsks
pub mod ReadRows
-- nothing else is
pub mod Left
pub mod FirstLine
pub mod OnlyRows
-- what is read splits into the records of the lines
pub mod Records
-- what is written is rows, and is read back
pub mod Decimal
pub mod WrittenCells
pub mod Pieces
pub mod Written
pub mod Promises
-- small texts, computed
pub mod Examples
