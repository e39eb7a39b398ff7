pub mod Shape
pub mod Work
