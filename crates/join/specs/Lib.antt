pub mod Keeping
pub mod Levels
pub mod Boxes
pub mod Marks
