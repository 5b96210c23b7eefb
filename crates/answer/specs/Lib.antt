-- What the contracts of `answer` cite, besides the definitions of `rules` and of the crates below.
pub mod Answer
