pub mod Finding
pub mod Isa
pub mod Laws
pub mod Patches
pub mod Refusals
pub mod Roles
pub mod Words
