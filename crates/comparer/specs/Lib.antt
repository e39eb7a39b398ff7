pub mod Verdict
pub mod Later
