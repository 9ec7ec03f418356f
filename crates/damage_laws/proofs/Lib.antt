pub mod Counted
pub mod GoodFinds
pub mod Heads
pub mod Joins
pub mod Kept
pub mod LookedOnce
pub mod MergedFinds
