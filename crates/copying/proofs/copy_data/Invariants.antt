-- `copy_data`. The loop's invariant: the first k blocks were stored; so the sector that they come from is as it was.
-- Assumes nothing.
use mathlib.Core.List.{List, []}
use Prim.Native.Nat.{ℕ}
use lib.ListN.{get_or, take, drop}
use Rattle.rules.specs.Ground.{Block}
use Rattle.rules.specs.Look.{data_blocks}
use Rattle.rules.specs.Stores.{data_stores}
use Rattle.layout.specs.Numbers.{sector_no}
use Rattle.budget.specs.declared.Writer.{Writer}
use Rattle.budget.specs.Budget.{held}
use Rattle.budget.proofs.Laws.{Made}
use Rattle.copying.specs.declared.Source.{Source}
use Rattle.copying.proofs.copy_data.Given as goal

-- the blocks that are copied
abbrev pub blocks_from : Writer → (s : ℕ) → Source → List Block
blocks_from w s source = take (data_blocks source.length) (drop source.first (get_or (held w) s []))

abbrev pub invariant-loop-k : goal.invariant-loop-k
invariant-loop-k l =
    Made l.initial.writer (data_stores (sector_no l.active.sector) l.active.scan.data_end (take l.k (blocks_from l.initial.writer (sector_no l.from) l.source))) l.writer
