pub mod Loading
pub mod Viewed
