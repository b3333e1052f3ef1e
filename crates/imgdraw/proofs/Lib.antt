mod Whole
mod Outs
pub mod Enough
pub mod Examples
