pub mod Lines
pub mod Frames
mod Turning
mod Writers
