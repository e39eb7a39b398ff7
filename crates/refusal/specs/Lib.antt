pub mod Number
pub mod Lowest
pub mod Place
pub mod Lent
pub mod Answer
