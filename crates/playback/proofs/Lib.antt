pub mod First
pub mod Flats
mod LineByLine
mod Turns
