-- What callers learn of the answers, and the proofs of the functions share.
pub mod Told
pub mod Leaving
