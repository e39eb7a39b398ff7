pub mod Skips
pub mod Backward
pub mod Onward
