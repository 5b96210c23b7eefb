-- What the contracts of `store` cite, besides the definitions of `rules` and of the crates below.
pub mod State
