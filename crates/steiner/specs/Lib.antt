pub mod Points
pub mod System
pub mod Listed
pub mod Build
pub mod Plans
