-- What the proofs of both registers share.
pub mod Table
