pub mod Orders
pub mod Pairs
pub mod Computed
pub mod Listed
pub mod Accepted
pub mod Plans
pub mod Cases
