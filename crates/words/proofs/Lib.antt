pub mod Bytes
pub mod Stores
pub mod Cases
pub mod Same
pub mod Endian
