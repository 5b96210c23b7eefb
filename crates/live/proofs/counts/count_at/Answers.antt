-- `counts::count_at`: what is read is sector s of the image.
-- Assumes nothing.
use mathlib.Core.Path.{◌≡◌}
use native.Mathlib.Omega.{arith}
use lib.ListN.{length}
use Rattle.rules.specs.Meaning.{view_at}
use Rattle.layout.specs.Numbers.{sector_no}
use Rattle.image.specs.Answer.{views}
use Rattle.image.proofs.Sectors.{read_count}
use Rattle.image.proofs.EntryBlocks.{entries-few}
use Rattle.live.proofs.counts.count_at.Goals as goal
use Rattle.live.proofs.counts.count_at.Goals.{After-take_entries-entries}

counted : (c : After-take_entries-entries) → c.take_entries-entries.result.count ≡ length (view_at (views c.args.image.now) (sector_no c.args.s)).entries
counted c =
    let image = c.args.image.now in
    read_count image.geometry image.bytes.now (sector_no c.args.s) c.requires.s_bound c.sector.result c.sector.ensures.geometry c.sector.ensures.blocks c.cycle_at-cycle.ensures c.take_entries-entries.ensures

pub overflow_cast-result : goal.overflow_cast-result
overflow_cast-result c =
    let image = c.args.image.now in
    omega (arith, counted (goal.at.overflow_cast-result c).After-take_entries-entries, entries-few image.geometry image.bytes.now (sector_no c.args.s) c.requires.s_bound)

pub returns : goal.returns
returns c = counted (goal.at.returns c).After-take_entries-entries
