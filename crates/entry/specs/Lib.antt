-- What the contracts of `entry` cite, besides the definitions of `rules`.
pub mod Answer
