pub mod Cited
pub mod Boards
pub mod Views
pub mod Sources
pub mod SourceLaws
