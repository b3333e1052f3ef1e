pub mod Numbered
mod Turns
mod Trees
pub mod Laws
mod Names
mod Words
mod Starts
mod Procedure
pub mod Whole
