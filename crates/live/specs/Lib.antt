-- The counts of entries, and the crate's answers for live values.
pub mod Counts
pub mod Counted
pub mod Live
