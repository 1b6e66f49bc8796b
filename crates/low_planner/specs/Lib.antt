pub mod Build
pub mod Commands
pub mod Fault
pub mod Supported
pub mod Sweep
pub mod Worked
