pub mod Asked
pub mod Cycle
pub mod Members
