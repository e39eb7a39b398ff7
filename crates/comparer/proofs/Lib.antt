pub mod Computed
pub mod Reading
pub mod Forms
