-- What callers learn of a sector that was read, and what the proofs of the functions share.
pub mod Laws
pub mod Standing
pub mod Classes
