pub mod Parsing
pub mod Rows
pub mod Worked
