pub mod Bits
pub mod Sets
pub mod Kin
pub mod Places
pub mod Heirs
pub mod Results
