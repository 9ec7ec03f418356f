pub mod Adopted
pub mod Idle
pub mod Turned
