-- What the contracts of `layout` cite, besides the definitions of `rules`.
pub mod Numbers
pub mod Sizes
pub mod Geometry
pub mod Image
pub mod Options
