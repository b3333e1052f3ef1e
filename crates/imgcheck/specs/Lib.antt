pub mod Sizes
pub mod Reports
