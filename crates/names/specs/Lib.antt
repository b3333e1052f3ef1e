pub mod Prepared
pub mod Index
