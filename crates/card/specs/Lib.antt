-- What the walks over a card's nodes find.
pub mod Walks
