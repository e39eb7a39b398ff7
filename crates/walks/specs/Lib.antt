pub mod Steps
pub mod Ways
pub mod Meeting
pub mod Trail
pub mod Stamps
pub mod Calls
