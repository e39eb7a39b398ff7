pub mod Remainders
pub mod Join
pub mod Work
