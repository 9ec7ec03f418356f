-- Regions that are free, taken or in parts, and what a disk tells of them.
pub mod Added
pub mod Beside
pub mod Bodies
pub mod FreeSets
pub mod Freeing
pub mod OneRegion
pub mod Clear
pub mod Taken
pub mod Telling
pub mod Touching
