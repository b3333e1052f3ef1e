mod Scenes
mod Leaving
mod Entering
pub mod Painting
pub mod Booked
