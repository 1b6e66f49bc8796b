pub mod Bounds
pub mod Effects
pub mod Painting
pub mod Turns
pub mod Edited
