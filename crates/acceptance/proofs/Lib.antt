-- The proofs of the demands, from the calls' contracts and the laws of `rules`.
pub mod Numbers
pub mod Steps
pub mod Demand1
pub mod Demand2
pub mod Demand3
pub mod Accepted
