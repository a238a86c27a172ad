-- Byte strings, and how machine words hold them.
pub mod Bytes
pub mod Words
