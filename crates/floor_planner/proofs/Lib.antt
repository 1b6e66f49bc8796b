pub mod Models
pub mod Sweeping
