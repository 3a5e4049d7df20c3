-- What is known of bytes in which a mark was found.
pub mod Marks
