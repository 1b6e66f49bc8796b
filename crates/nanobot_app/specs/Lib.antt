pub mod Headline
pub mod Outcome
pub mod Plans
pub mod Worked
