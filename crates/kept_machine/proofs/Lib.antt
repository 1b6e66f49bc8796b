mod Aimed
mod Changing
mod Differences
mod Histories
pub mod Notes
mod OneVoxel
pub mod Standing
pub mod Steps
mod Targets
mod Traces
