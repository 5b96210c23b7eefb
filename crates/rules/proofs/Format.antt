-- Laws of the bytes: sizes and blocks, checksums, the entry, and what a block is.
pub mod Ground
pub mod Checksum
pub mod Entry
pub mod Look
pub mod Built
