pub mod Fault
pub mod Padding
pub mod Flood
pub mod Runs
pub mod Words
