pub mod Scripts
pub mod Texts
