-- What the contracts of `change` cite, besides the definitions of `rules` and of the crates below.
pub mod Ready
