pub mod Corners
pub mod Fours
pub mod Legality
pub mod Openings
pub mod Regions
pub mod Splits
pub mod Sweeps
