pub mod Lane
pub mod Rest
pub mod Resting
pub mod Steps
