-- What the contracts of `c_api` cite, besides the definitions of `rules` and of `store`.
pub mod Told
