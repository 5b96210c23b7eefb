-- What the proofs of the functions share.
pub mod Moving
pub mod Room
