pub mod Spans
pub mod Fetched
pub mod Blames
pub mod Fetches
