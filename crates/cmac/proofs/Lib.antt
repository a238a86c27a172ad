pub mod Count
pub mod Padding
pub mod Chain
pub mod Doubling
pub mod Laws
pub mod TraceLaws
pub mod Examples
