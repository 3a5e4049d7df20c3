-- What a schedule in comma-separated text is (§18), as definitions, and what is promised of it.
pub mod Turn
pub mod Line
pub mod Answer
pub mod Read
pub mod Write
pub mod Rows
pub mod Claims
