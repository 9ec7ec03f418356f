-- Rows that a room takes in as one part.
pub mod Adopted
pub mod AdoptedImages
pub mod AdoptedParts
pub mod AdoptedSizes
pub mod SealedRows
