pub mod Slots
pub mod Acts
