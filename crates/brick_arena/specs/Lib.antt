pub mod Arena
pub mod Chunks
pub mod Known
pub mod Ownership
pub mod Slots
