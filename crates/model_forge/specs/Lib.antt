pub mod Forging
pub mod Tower
