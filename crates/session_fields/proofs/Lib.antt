-- Laws of the numbers of a body and of the table of widths.
pub mod Numbers
pub mod Table
