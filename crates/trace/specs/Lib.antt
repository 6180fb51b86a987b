pub mod Texts
pub mod Lines
pub mod Numbered
pub mod Setups
