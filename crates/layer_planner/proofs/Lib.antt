pub mod Bounds
pub mod LeftAndBuilt
pub mod Paints
pub mod Sweeps
pub mod Gaps
