-- AES-CMAC as RFC 4493 states it, the same with a trace of what the cipher is given, and what a context for many tags holds.
pub mod Cmac
pub mod Context
pub mod Shifted
pub mod Traced
