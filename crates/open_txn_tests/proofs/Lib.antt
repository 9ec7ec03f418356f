pub mod Ended
pub mod Taken
