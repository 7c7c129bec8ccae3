pub mod Hex
pub mod Report
pub mod Request
pub mod Sets
