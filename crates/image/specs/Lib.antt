-- The crate's answers for what an image means.
pub mod Answer
pub mod Entries
pub mod EntriesIn
