-- What callers learn of the rule at rest, and the proofs of the functions share.
pub mod Reading
pub mod Changing
