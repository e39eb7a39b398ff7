pub mod Computed
pub mod Runs
pub mod ByPlace
pub mod Reading
