pub mod Merging
pub mod Work
pub mod Pairs
pub mod Live
pub mod Near
