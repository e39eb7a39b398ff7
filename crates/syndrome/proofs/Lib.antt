pub mod Symbols
pub mod Scanning
pub mod Odds
pub mod Rules
pub mod Cases
pub mod Flags
pub mod Packed
