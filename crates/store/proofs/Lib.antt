-- What the proofs of the functions share.
pub mod Sizes
pub mod Reading
pub mod Mounting
pub mod Changing
