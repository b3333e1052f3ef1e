mod Classes
mod Runs
mod Fronts
mod Scan
mod Going
pub mod Fits
pub mod Laid
pub mod Decode
