pub mod Computed
pub mod FirstLine
pub mod Laid
pub mod Bounds
pub mod Answers
pub mod Lists
pub mod ReadBack
pub mod Roundtrip
