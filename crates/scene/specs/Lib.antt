pub mod Scene
pub mod Measuring
