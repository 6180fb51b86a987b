pub mod Decimals
pub mod LineLaws
pub mod Fronts
pub mod Words
pub mod OneCall
pub mod OneSetup
