-- The crate's answers for the newest entry of an ID, and for its value.
pub mod Search
pub mod Value
