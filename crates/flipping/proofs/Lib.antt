pub mod Marking
pub mod Odd
pub mod Unmarking
pub mod Rules
pub mod Cases
