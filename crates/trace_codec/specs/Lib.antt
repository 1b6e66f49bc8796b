pub mod Decoder
pub mod FarFront
pub mod One
pub mod Pieces
pub mod Whole
pub mod Front
