-- What the papers say of the whole, beside the calls: document 01's table, its rules in words, when a read is accepted, and what document
-- 02 says of a wipe, of the count, of a split write, of the reserved nonce, of a journalled write and of a recovery.
pub mod Table
pub mod Rules
pub mod ReadRule
pub mod WipeRule
pub mod CountRule
pub mod SplitRule
pub mod ReserveRule
pub mod Ordered
pub mod JournalRule
pub mod RecoveryRule
