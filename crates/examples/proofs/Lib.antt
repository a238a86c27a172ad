pub mod Histories
pub mod Lost
