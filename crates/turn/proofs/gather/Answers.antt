-- `gather`: the values that survive are the live ones of the sector after the active one.
-- Assumes nothing.
use mathlib.Core.Path.{ap, ◌∙◌}
use Prim.Native.Nat.{ℕ, ◌<◌}
use native.Mathlib.Omega.{arith}
use lib.ListN.{length}
use Rattle.rules.specs.Meaning.{view_at}
use Rattle.rules.proofs.Ring.Order.{next-lt}
use Rattle.layout.specs.Numbers.{sector_no}
use Rattle.layout.specs.Geometry.{sectors_of}
use Rattle.budget.specs.Budget.{shown}
use Rattle.live.proofs.Counting.{entries-noted}
use Rattle.turn.proofs.Turning.{survivors-are}
use Rattle.turn.proofs.gather.Goals as goal
use Rattle.turn.proofs.gather.Goals.{After-next_sector-oldest}

oldest-inside : (p : After-next_sector-oldest) → sector_no p.next_sector-oldest.result < sectors_of p.args.writer.now.geometry
oldest-inside p =
    omega (arith, p.next_sector-oldest.ensures, next-lt (sectors_of p.args.writer.now.geometry) (sector_no p.args.active.sector) p.requires.carries.inside)

pub at-requires : goal.at-requires
at-requires c = omega (arith, oldest-inside (goal.at.at-requires c).After-next_sector-oldest, c.args.writer.now.geometry.sound.sectors_to)

pub copy_live-requires-clause-counted : goal.copy_live-requires-clause-counted
copy_live-requires-clause-counted c =
    c.at.ensures
    ∙ entries-noted c.args.writer.now.geometry c.args.writer.now.image.now (sector_no c.next_sector-oldest.result) (oldest-inside (goal.at.copy_live-requires-clause-counted c).After-next_sector-oldest) c.requires.counts
    ∙ ap (λ (s : ℕ). length (view_at (shown c.args.writer.now) s).entries) c.next_sector-oldest.ensures

pub returns-clause-did : goal.returns-clause-did
returns-clause-did c =
    rw (survivors-are c.args.writer.now (sector_no c.args.active.sector) c.requires.carries.inside) c.copy_live.ensures.did
