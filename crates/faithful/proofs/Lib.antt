mod Names
mod Expressions
mod Ends
mod Statements
mod Tokens
mod Procedures
pub mod Faithful
