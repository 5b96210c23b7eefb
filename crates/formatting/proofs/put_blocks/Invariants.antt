-- `put_blocks`. The loop's invariant: the first b blocks are stored.
-- Assumes nothing.
use Rattle.rules.specs.Stores.{final_blocks}
use Rattle.layout.specs.Numbers.{sector_no}
use Rattle.layout.specs.Geometry.{blocks_of}
use Rattle.budget.proofs.Laws.{Made}
use Rattle.formatting.proofs.put_blocks.Given as goal

abbrev pub invariant-loop-b : goal.invariant-loop-b
invariant-loop-b l = Made l.initial.writer (final_blocks (blocks_of l.initial.writer.geometry) (sector_no l.s) 0 l.b) l.writer
