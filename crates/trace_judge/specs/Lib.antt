pub mod Alone
pub mod Course
pub mod Payment
pub mod Worked
