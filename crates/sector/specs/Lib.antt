-- The crate's answers for what a sector shows.
pub mod Answer
