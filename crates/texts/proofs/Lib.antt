pub mod Layer
pub mod Comparison
pub mod Laws
