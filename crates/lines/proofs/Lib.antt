pub mod Computed
pub mod Lanes
pub mod Rest
pub mod Weights
