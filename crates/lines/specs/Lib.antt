pub mod Alist
pub mod Text
pub mod Sides
pub mod Lines
