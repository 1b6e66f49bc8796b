pub mod Bounds
pub mod Pair
pub mod Phases
pub mod Rows
pub mod Runs
pub mod Stamping
pub mod Writing
pub mod Worked
