mod Digits
pub mod Fields
pub mod Cuts
mod Errors
mod Examples
pub mod Fronts
