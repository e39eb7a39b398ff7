pub mod Written
pub mod Rows
pub mod Accepted
pub mod Plans
pub mod Bench
pub mod From004
