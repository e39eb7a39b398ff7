pub mod Each
pub mod Table
pub mod Mask
pub mod Inner
