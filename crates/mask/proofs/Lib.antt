-- The laws of masks and marks: `Laws` and `Padded` are for callers, `Word` and `Marking` for the proofs of this crate.
pub mod Word
pub mod Padded
pub mod Laws
pub mod Marking
