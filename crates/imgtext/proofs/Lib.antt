mod Shown
pub mod Enough
