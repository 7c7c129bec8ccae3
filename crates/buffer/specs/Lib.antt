pub mod Checks
pub mod View
