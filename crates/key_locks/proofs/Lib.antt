pub mod Held
pub mod Gathered
pub mod Numbered
