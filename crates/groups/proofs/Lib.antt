pub mod MakingLaws
pub mod WaitingLaws
