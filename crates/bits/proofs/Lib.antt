pub mod FormatLaws
pub mod LittleEndian
pub mod OneField
pub mod Outside
pub mod Scattered
pub mod Senses
