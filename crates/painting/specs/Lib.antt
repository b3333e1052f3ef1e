pub mod Specified
pub mod Running
