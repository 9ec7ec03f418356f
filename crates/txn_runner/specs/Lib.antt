pub mod Body
pub mod Steps
