-- Merges: which regions they take, what is written for them, and sealing their part.
pub mod BodyPieces
pub mod JobRegions
pub mod LongBodies
pub mod MergeFits
pub mod MergedHeaders
pub mod OpenedOver
pub mod Picking
pub mod Retired
pub mod SealedJobs
pub mod SealingJobs
pub mod UnsealedJobs
pub mod Writing
pub mod Written
