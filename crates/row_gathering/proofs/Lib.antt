pub mod KeysFrom
pub mod FoundRows
pub mod Entries
pub mod Bodies
pub mod Sorting
pub mod Answered
pub mod Spelled
