pub mod Tokens
pub mod Plans
pub mod Printing
pub mod Answers
pub mod Outputs
