pub mod Answer
pub mod Lowest
pub mod Place
pub mod Number
pub mod Lent
