pub mod Units
pub mod Remainders
pub mod Plans
pub mod Rules
pub mod Judging
pub mod Written
pub mod Cases
