-- Worked examples, computed.
pub mod Vectors
pub mod Splits
pub mod Partitions
pub mod Additions
pub mod Runs
pub mod Commands
pub mod Limits
pub mod Several
pub mod LawExamples
