pub mod Weights
pub mod Cases
pub mod Lengths
pub mod Stored
pub mod Rules
pub mod Changes
