pub mod Examples
pub mod OneRow
pub mod Parsed
pub mod Sides
