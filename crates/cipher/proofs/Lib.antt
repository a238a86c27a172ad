pub mod Xor
pub mod Mixing
pub mod Rounds
pub mod Schedule
pub mod Examples
