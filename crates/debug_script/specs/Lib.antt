pub mod Broken
pub mod Calls
pub mod Printing
pub mod Script
pub mod Sessions
pub mod Worked
