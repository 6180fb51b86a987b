pub mod Stacks
pub mod Tables
pub mod Windows
pub mod FlatShape
