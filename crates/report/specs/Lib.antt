pub mod Positions
pub mod Sentences
pub mod Reports
