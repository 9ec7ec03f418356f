pub mod Options
pub mod Levels
pub mod Walking
pub mod Bare
pub mod Numbered
pub mod Parsing
