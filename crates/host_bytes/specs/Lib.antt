-- What the functions for C do, over the outcomes of the tree's calls.
pub mod Host
pub mod Journal
pub mod RoundTrip
pub mod Split
