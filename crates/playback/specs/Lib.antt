pub mod Flats
pub mod Playing
pub mod LineByLine
pub mod Replaying
