-- Laws that callers of `layout` cite.
pub mod Laws
pub mod Options
