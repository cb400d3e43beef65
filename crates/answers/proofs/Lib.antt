pub mod Hits
pub mod Room
pub mod Turns
pub mod Unique
