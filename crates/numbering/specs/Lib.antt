pub mod Numbers
pub mod Pass
