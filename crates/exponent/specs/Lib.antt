pub mod Plan
pub mod Limits
pub mod Position
pub mod Tanner
pub mod Neighbours
pub mod Remainders
pub mod Graphs
