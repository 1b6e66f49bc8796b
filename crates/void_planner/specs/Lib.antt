pub mod Bounds
pub mod Phases
pub mod Square
pub mod Tiles
