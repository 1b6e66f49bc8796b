pub mod Alone
pub mod Edits
pub mod Restoring
pub mod Settling
pub mod Situation
pub mod Stepped
pub mod Undoing
