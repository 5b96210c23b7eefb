-- `put_sectors`. The loop's invariant: the sectors from 1 to below s are stored.
-- Assumes nothing.
use Prim.Native.Nat.{◌-◌}
use Rattle.rules.specs.Stores.{final_sectors}
use Rattle.layout.specs.Geometry.{blocks_of}
use Rattle.budget.proofs.Laws.{Made}
use Rattle.formatting.proofs.put_sectors.Given as goal

abbrev pub invariant-loop-s : goal.invariant-loop-s
invariant-loop-s l = Made l.initial.writer (final_sectors (blocks_of l.initial.writer.geometry) 1 (l.s - 1)) l.writer
