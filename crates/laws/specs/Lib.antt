pub mod Lists
pub mod Lines
pub mod Pairs
pub mod Rising
