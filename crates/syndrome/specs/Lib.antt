pub mod Word
pub mod Check
pub mod Scan
pub mod Lanes
