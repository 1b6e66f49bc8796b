pub mod Alone
pub mod Judging
pub mod Running
pub mod Works
pub mod Examples
