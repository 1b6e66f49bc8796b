pub mod Calls
pub mod Given
pub mod Lent
