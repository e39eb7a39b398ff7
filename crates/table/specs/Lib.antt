pub mod Build
pub mod Write
