pub mod Work
pub mod Pending
