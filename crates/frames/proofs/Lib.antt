pub mod Callers
pub mod Flats
pub mod Laws
pub mod Registers
pub mod Same
