pub mod Coded
pub mod Sane
pub mod Declarations
pub mod Reading
