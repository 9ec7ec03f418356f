pub mod ViewLemmas
pub mod Bits
pub mod Sets
pub mod SourceLemmas
