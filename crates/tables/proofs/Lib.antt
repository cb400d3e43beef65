pub mod Footprints
pub mod Verdicts
pub mod Runs
pub mod Entries
