pub mod Flat
pub mod Tiles
pub mod Sort
pub mod Judged
pub mod Check
