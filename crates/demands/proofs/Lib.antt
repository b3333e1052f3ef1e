pub mod Numbered
pub mod Proved
pub mod Instances
