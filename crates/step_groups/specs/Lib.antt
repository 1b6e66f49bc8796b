pub mod Judging
pub mod Boxes
pub mod Groups
pub mod Apart
pub mod Outlines
pub mod Steps
pub mod Numbers
pub mod Deeds
