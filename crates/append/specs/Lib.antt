-- What the contracts of `append` cite, besides the definitions of `rules` and of the crates below.
pub mod Append
