-- The open epoch, and sealing it behind a closed gate.
pub mod Appending
pub mod Arranging
pub mod Behind
pub mod BehindGates
pub mod Ending
pub mod Fits
pub mod Gates
pub mod Gathering
pub mod Holding
pub mod Kept
pub mod Longer
pub mod Partitions
pub mod Torn
