pub mod Places
pub mod Tiles
