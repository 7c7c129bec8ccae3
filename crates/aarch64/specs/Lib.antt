pub mod Fields
pub mod Meaning
pub mod Roles
pub mod Lawful
pub mod Finds
pub mod KindTables
pub mod RoleLaws
pub mod Inversions
