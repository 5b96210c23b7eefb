-- What callers learn of a search and of a value, and what the proofs of the functions share.
pub mod SearchLaws
pub mod Valued
pub mod Seeking
pub mod LastNamed
