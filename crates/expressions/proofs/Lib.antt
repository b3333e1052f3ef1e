pub mod Tokens
pub mod Pays
pub mod Paid
pub mod Answers
mod Primaries
mod Puts
pub mod Steps
pub mod Rooms
mod Moves
mod Going
