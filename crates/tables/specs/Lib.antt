pub mod Edits
pub mod Standing
pub mod View
