pub mod Ends
pub mod Found
pub mod Merged
pub mod Origins
pub mod Reading
pub mod Maps
pub mod Dumps
