pub mod Acts
pub mod Laws
pub mod Turns
