-- Views of a room, and the eyes on its board.
pub mod Boarding
pub mod Returning
pub mod Seating
pub mod Viewed
pub mod Viewing
