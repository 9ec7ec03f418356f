pub mod Locks
pub mod Lent
pub mod Slots
