pub mod Headers
pub mod Bodies
pub mod Encoding
pub mod Written
