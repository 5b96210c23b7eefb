-- What the contracts of `copying` cite, besides the definitions of `rules` and of the crates below.
pub mod Copy
