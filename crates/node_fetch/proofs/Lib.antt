pub mod Reading
pub mod SpanLaws
pub mod Told
pub mod OfSpan
pub mod PartRows
pub mod Parts
pub mod ReadBack
pub mod Blames
