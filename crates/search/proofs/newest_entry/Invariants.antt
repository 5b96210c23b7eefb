-- `search::newest_entry`: the invariant is the search under way, over the sectors that are left.
-- Assumes nothing.
use Prim.Native.Nat.{◌-◌}
use Rattle.rules.specs.Meaning.{next}
use Rattle.layout.specs.Numbers.{sector_no}
use Rattle.layout.specs.Geometry.{sectors_of}
use Rattle.entry.specs.Answer.{id_no}
use Rattle.image.specs.Answer.{views}
use Rattle.search.proofs.Seeking.{Seeking}
use Rattle.search.proofs.newest_entry.Given as goal

abbrev pub invariant-loop-passed : goal.invariant-loop-passed
invariant-loop-passed l =
    let S = sectors_of l.image.geometry in
    Seeking (id_no l.id) S (next S (sector_no l.initial.s)) (views l.image) (S - l._passed) (sector_no l.s)
