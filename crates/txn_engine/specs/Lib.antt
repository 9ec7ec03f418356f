pub mod Txns
pub mod Steps
pub mod Faults
pub mod Reads
pub mod Turns
pub mod Laws
