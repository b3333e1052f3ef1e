pub mod WalkLaws
pub mod TurnLaws
pub mod Runs
