-- Erasing retired parts.
pub mod AllErased
pub mod Erasing
pub mod GateImages
pub mod GateSteps
pub mod Led
pub mod LedParts
