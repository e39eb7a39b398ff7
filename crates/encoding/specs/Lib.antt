pub mod Encoded
pub mod Encode
pub mod Work
