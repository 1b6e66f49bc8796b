pub mod Counting
pub mod Difference
pub mod Least
pub mod Point
pub mod Region
pub mod Space
pub mod Worked
