pub mod Weights
pub mod Change
pub mod Changes
