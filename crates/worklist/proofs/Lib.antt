pub mod Unmarking
pub mod Steps
