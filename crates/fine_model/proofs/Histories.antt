-- Histories, and runs over them.
pub mod Legal
pub mod Stated
pub mod HistoryLaws
pub mod Epochs
pub mod FitHistory
pub mod Goings
