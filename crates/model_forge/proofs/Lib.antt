pub mod Bits
pub mod Forged
pub mod InRow
pub mod Sizes
pub mod Towers
