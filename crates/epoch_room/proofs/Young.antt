-- The youngest parts, gathered into one.
pub mod YoungParts
pub mod YoungImages
pub mod YoungKept
pub mod YoungRooms
pub mod YoungRows
pub mod YoungTold
