-- What callers learn of an index, and what the proofs of the functions share.
pub mod IndexLaws
pub mod Indexing
