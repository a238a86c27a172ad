-- AES-128 as FIPS 197 states it, over the field and the substitution of the crate below.
pub mod State
pub mod KeyExpansion
pub mod Cipher
