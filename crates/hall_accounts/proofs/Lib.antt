pub mod Gone
pub mod NewLog
pub mod Begun
pub mod Doing
pub mod Crossing
