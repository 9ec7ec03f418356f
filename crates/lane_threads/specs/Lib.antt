pub mod Beginning
pub mod Gathering
pub mod Means
pub mod Resting
pub mod Workers
