pub mod Plan
pub mod Inner
pub mod Source004
