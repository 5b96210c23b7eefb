-- What the commands of the driver are due, and counts of bytes.
pub mod Due
pub mod Counts
