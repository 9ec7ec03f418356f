pub mod Opened
pub mod Starting
pub mod Running
pub mod Generating
pub mod Commands
