-- How many stores a call is due.
pub mod Few
pub mod Bound
pub mod Calls
