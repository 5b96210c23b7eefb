-- What the contracts of `mask` cite, besides the definitions of `rules`.
pub mod Flags
pub mod Marks
