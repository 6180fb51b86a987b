pub mod Beside
pub mod Replays
pub mod Rings
