pub mod Paid
pub mod Written
mod Moves
mod Iterating
mod Going
