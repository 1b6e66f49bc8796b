pub mod Alone
pub mod Acting
pub mod Answering
pub mod Apart
pub mod Cells
pub mod Changed
pub mod OneRegion
pub mod Opening
pub mod Ordered
pub mod Reaching
pub mod Refitting
pub mod Regions
pub mod Restoring
pub mod Sizes
mod OnlyFloating
mod Standing
pub mod Stepping
pub mod Turning
pub mod Weighing
pub mod Working
pub mod Taking
pub mod Still
pub mod Edited
pub mod Declining
pub mod Ends
