pub mod Statements
pub mod Procedures
