pub mod Bounded
pub mod Answering
