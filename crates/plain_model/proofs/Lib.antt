pub mod Places
pub mod Steps
pub mod Orders
pub mod Founds
