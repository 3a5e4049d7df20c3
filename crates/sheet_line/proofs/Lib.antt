-- Laws of a line: a number and its lowest bytes, and the cases of a field's content.
pub mod Bytes
pub mod Cases
