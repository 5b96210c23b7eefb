-- `search::newest_in`: the invariant is that the entries above n do not name the ID; one turn is one step of the definition.
-- Assumes nothing.
use mathlib.Core.Path.{◌≡◌}
use Rattle.entry.specs.Answer.{id_no}
use Rattle.sector.specs.Answer.{view_in}
use Rattle.search.specs.Search.{last_named_below, last_named}
use Rattle.search.proofs.newest_in.Given as goal

abbrev pub invariant-loop-n : goal.invariant-loop-n
invariant-loop-n l = last_named_below (id_no l.id) l.n (view_in l.sector).entries ≡ last_named (id_no l.id) (view_in l.sector).entries
