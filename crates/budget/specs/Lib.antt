-- What the contracts of `log` cite, besides the definitions of `rules` and `layout`.
pub mod Budget
pub mod Steps
