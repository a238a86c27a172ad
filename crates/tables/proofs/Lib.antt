pub mod Every
pub mod Tables
pub mod Inverse
pub mod Doubling
pub mod Examples
