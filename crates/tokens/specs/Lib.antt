pub mod Tokens
pub mod Steps
pub mod Bytes
