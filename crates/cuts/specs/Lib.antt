-- Power lost (document 02, T-05): what goes out to the media and what a cut leaves there, lists of attempts and recoveries, the claim over
-- every such list, and the laws that keep it from being empty.
pub mod Media
pub mod World
pub mod Claim
pub mod NotEmpty
pub mod Ran
