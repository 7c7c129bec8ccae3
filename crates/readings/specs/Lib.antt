pub mod Walk
pub mod Agree
pub mod Draft
pub mod Code
pub mod Drafting
pub mod Layout
pub mod Growth
pub mod Layouts
