pub mod Bounds
pub mod Prices
