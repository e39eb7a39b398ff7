pub mod Cases
pub mod Verdict
pub mod Fewest
pub mod Rules
pub mod Model
pub mod Calls
