pub mod Scope
pub mod Meant
pub mod Index
pub mod Sound
pub mod Follows
pub mod After
pub mod Nesting
