pub mod Turns
pub mod Going
pub mod Answering
pub mod Committing
pub mod Faults
pub mod Found
