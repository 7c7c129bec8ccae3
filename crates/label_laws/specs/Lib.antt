pub mod Leads
pub mod Moves
pub mod Sound
pub mod Laws
