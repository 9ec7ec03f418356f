pub mod Going
pub mod Halls
pub mod Doing
