pub mod Labels
pub mod Since
pub mod Members
pub mod Patches
pub mod Steps
pub mod Islands
pub mod Accounts
