-- Demand 3: the plain array, a list of calls and what becomes known along it, the claim, and what is tagged.
pub mod Array
pub mod Places
pub mod Run
pub mod Claim
pub mod OneWrite
pub mod Nonces
pub mod Tagged
pub mod Ran
