pub mod Behind
pub mod Closing
pub mod Elements
pub mod Giving
pub mod Keeping
pub mod Lists
pub mod Seating
pub mod Stepping
