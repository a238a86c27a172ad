-- Laws of journals.
pub mod LevelLaws
pub mod GatherLaws
pub mod ScatterLaws
pub mod FillLaws
pub mod ViewLaws
pub mod BlockLaws
pub mod CandidateLaws
pub mod BackLaws
pub mod JournalLaws
pub mod JournalledLaws
