pub mod Request
pub mod Output
pub mod Steps
