-- What the contracts of `formatting` cite, besides the definitions of `rules` and of the crates below.
pub mod Finals
