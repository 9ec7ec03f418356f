pub mod Steps
pub mod Merging
pub mod Laws
pub mod Made
