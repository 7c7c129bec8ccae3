pub mod Follows
pub mod Plain
