-- What the proofs of this crate and of those above it share.
pub mod DataBlocks
pub mod Appending
pub mod AfterAppend
