-- What callers' proofs cite.
pub mod Ranges
-- What this crate's proofs cite.
mod Held
