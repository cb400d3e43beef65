pub mod Tell
pub mod Unique
