pub mod Aiming
pub mod Calls
pub mod History
pub mod Kept
pub mod OneVoxel
