pub mod FileDisks
pub mod NewLog
pub mod TestSteps
