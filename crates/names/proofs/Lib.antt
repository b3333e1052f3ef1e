pub mod Homes
pub mod Decoded
mod Last
mod Entries
mod Hashing
mod Walk
mod Noting
mod Digits
mod Procedures
mod Payloads
mod Rewriting
