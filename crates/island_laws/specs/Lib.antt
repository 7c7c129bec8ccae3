pub mod Waiting
pub mod Laws
