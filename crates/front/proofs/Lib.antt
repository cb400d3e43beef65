pub mod Merging
pub mod Placing
pub mod Moving
pub mod Callers
