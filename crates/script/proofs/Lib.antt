pub mod OneScript
mod Turns
