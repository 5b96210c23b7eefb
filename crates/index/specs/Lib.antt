-- What the contracts of `index` cite, besides the definitions of `rules` and of the crates below.
pub mod Buckets
pub mod Tables
pub mod Index
