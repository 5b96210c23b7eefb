-- `look::data_blocks`: rounded up, so that no length wraps.
-- Assumes nothing.
use native.Mathlib.Omega.{arith}
use borrow.Author.Tests.{le-leb, lt-leb}
use Rattle.rules.specs.Look.{data_blocks}
use Rattle.entry.proofs.look.data_blocks.Goals as goal

pub returns-then-length-le-SMALL : goal.returns-then-length-le-SMALL
unfolding data_blocks
returns-then-length-le-SMALL c = simp (le-leb _ _ c.if-length-le-SMALL.true)

pub returns-else-length-le-SMALL : goal.returns-else-length-le-SMALL
unfolding data_blocks
returns-else-length-le-SMALL c = simp (lt-leb _ _ c.if-length-le-SMALL.false) (omega (arith, c.div_ceil.ensures))
