-- `EntryCounts::turned`: the sector after one of the image is one, and there is a count for each.
-- Assumes nothing.
use Prim.Native.Nat.{◌<◌}
use native.Mathlib.Omega.{arith}
use Rattle.rules.specs.Ground.{max_sectors}
use Rattle.rules.proofs.Ring.Order.{next-lt}
use Rattle.layout.specs.Numbers.{sector_no}
use Rattle.layout.specs.Geometry.{sectors_of}
use Rattle.live.proofs.counts.EntryCounts.turned.Goals as goal
use Rattle.live.proofs.counts.EntryCounts.turned.Goals.{After-number-after}

low : (c : After-number-after) → c.number-after.result < max_sectors
low c =
    omega (arith, c.number-after.ensures, c.next_sector.ensures, next-lt (sectors_of c.args.g) (sector_no c.args.active.sector) c.requires.sector_bound, c.args.g.sound.sectors_to)

pub offset_bounds-all-after : goal.offset_bounds-all-after
offset_bounds-all-after c = omega (arith, low (goal.at.offset_bounds-all-after c).After-number-after)

pub bounds-all-after : goal.bounds-all-after
bounds-all-after c = low (goal.at.bounds-all-after c).After-number-after
