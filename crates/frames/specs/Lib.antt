pub mod Frames
pub mod Registers
pub mod Stillness
pub mod Calls
pub mod Laws
pub mod Flat
pub mod FlatShape
pub mod Texts
