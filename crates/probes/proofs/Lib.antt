pub mod Behind
pub mod Passes
pub mod Searched
pub mod Turns
pub mod Settled
