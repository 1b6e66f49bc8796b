pub mod Bounds
pub mod Building
pub mod Crew
pub mod Lineup
pub mod Phases
pub mod Strips
