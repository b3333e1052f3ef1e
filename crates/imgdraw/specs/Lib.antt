pub mod Sizes
pub mod Printed
