-- `put_data`. The loop's invariant: the first k data blocks were stored.
-- Assumes nothing.
use lib.ListN.{take}
use Rattle.rules.specs.Stores.{data_stores}
use Rattle.layout.specs.Numbers.{sector_no}
use Rattle.budget.proofs.Laws.{Made}
use Rattle.append.specs.Append.{value_blocks}
use Rattle.append.proofs.put_data.Given as goal

abbrev pub invariant-loop-k : goal.invariant-loop-k
invariant-loop-k l =
    Made l.initial.writer (data_stores (sector_no l.active.sector) l.active.scan.data_end (take l.k (value_blocks l.value))) l.writer
