mod Taking
mod Seeing
mod SealedParts
pub mod RoomParts
