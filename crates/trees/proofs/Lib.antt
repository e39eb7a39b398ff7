pub mod Nodes
pub mod Walks
pub mod Passing
pub mod Placing
pub mod Growing
pub mod Overfull
pub mod Counting
pub mod SideBySide
