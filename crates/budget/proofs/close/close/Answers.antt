-- `close::close` puts the close of the sector's cycle into block B-2.
-- Assumes nothing.
use mathlib.Core.Path.{ap}
use Rattle.rules.specs.Stores.{close_sector}
use Rattle.layout.specs.Numbers.{block_no}
use Rattle.budget.proofs.close.close.Goals as goal

pub returns : goal.returns
unfolding close_sector
returns c = rw (c.close.ensures, ap block_no c.new-at.ensures, c.blocks-2.ensures, c.cycle_at-cycle.ensures, c.image.ensures.geometry, c.image.ensures.bytes) at c.put.ensures
