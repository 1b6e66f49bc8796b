pub mod Costs
pub mod Given
pub mod Headlines
pub mod Named
pub mod Statuses
