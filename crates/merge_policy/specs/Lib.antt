pub mod Choices
pub mod Figures
pub mod Steps
pub mod Young
