pub mod Flip
pub mod Work
