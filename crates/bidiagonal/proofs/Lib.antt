pub mod Thirds
pub mod Columns
pub mod Judging
pub mod Words
