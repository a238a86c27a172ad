-- The journal of a write (document 02, T-05): its bytes, the write that fills one, and the recovery of a card with it.
pub mod Journal
pub mod Journalled
pub mod Recovery
