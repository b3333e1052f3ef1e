mod Reporting
pub mod Enough
