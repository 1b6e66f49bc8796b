pub mod Better
pub mod Crew
pub mod Planners
pub mod Worked
