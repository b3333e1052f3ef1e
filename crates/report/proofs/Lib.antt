mod Placing
mod Wording
mod Reporting
