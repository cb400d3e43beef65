pub mod Fill
pub mod Reading
pub mod Groups
pub mod Taking
pub mod Answers
pub mod Outward
