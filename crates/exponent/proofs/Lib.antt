pub mod Numbers
pub mod Blocks
pub mod Rules
pub mod Tanner
pub mod Turning
pub mod Cases
pub mod Remainders
pub mod Reducing
