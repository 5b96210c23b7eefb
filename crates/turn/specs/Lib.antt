-- What the contracts of `turn` cite, besides the definitions of `rules` and of the crates below.
pub mod Turn
