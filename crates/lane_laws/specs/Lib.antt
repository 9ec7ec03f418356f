pub mod NoHall
pub mod Placing
pub mod Quiet
pub mod Works
pub mod Lanes
pub mod Joined
