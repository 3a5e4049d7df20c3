-- Laws of a task's row.
pub mod Rows
