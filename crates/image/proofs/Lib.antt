-- What callers learn of a survey and of the blocks of entries, and what the proofs of the functions share.
pub mod Laws
pub mod Sectors
pub mod States
pub mod Surveyed
pub mod EntryBlocks
