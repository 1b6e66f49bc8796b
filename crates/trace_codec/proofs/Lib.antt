pub mod Far
pub mod Fronts
pub mod Pieces
pub mod TakenBytes
pub mod Unique
pub mod WholeTraces
pub mod Feeding
