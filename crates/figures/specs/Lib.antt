pub mod Changes
pub mod Comparing
