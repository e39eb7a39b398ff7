pub mod Tree
pub mod Pairs
pub mod Grow
