pub mod Chosen
pub mod Counting
pub mod Crews
pub mod Empty
pub mod Lengths
pub mod OwnLayer
pub mod Scanned
pub mod Examples
