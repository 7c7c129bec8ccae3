pub mod Islands
pub mod Laws
