pub mod Test
pub mod Model
pub mod Calls
