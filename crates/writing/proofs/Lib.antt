pub mod Laying
pub mod Decimals
pub mod Signs
mod Writers
