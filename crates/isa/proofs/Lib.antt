pub mod Conditionals
pub mod Finding
pub mod Formatted
pub mod Inversions
pub mod Ranges
