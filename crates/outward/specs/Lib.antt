pub mod Outward
