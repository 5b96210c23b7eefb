-- What the proofs of the functions share.
pub mod Stepping
pub mod Gathering
pub mod Turning
