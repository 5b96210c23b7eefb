-- `put_entry`: the look-ahead, and then one store.
-- Assumes nothing.
use mathlib.Core.Path.{refl, ap}
use mathlib.Core.List.{[], ◌∷◌}
use Rattle.rules.specs.Stores.{kind_of}
use Rattle.layout.specs.Numbers.{sector_no, block_no}
use Rattle.layout.specs.Geometry.{blocks_of}
use Rattle.entry.specs.Answer.{head_of}
use Rattle.append.specs.Append.{entry_stores, next_block}
use Rattle.budget.proofs.Laws.{did_then, did-cut, did-as}
use Rattle.append.proofs.put_entry.Goals as goal

pub returns-in_err-look_ahead-clause-did : goal.returns-in_err-look_ahead-clause-did
unfolding entry_stores
returns-in_err-look_ahead-clause-did c =
    did-cut (record { sector = sector_no c.args.active.sector; block = next_block (blocks_of c.args.writer.now.geometry) c.args.active; kind = kind_of (head_of c.args.head); bytes = c.args.bytes } ∷ [])
    (rw c.with_entry-next.ensures at c.in_err-look_ahead.ensures) c.from_residual.ensures.0

pub returns-in_err-put-clause-did : goal.returns-in_err-put-clause-did
unfolding entry_stores
returns-in_err-put-clause-did c =
    did-as c.from_residual-in_err-put.ensures.0
    (did_then (rw c.with_entry-next.ensures at c.in_ok-look_ahead.ensures) (rw (ap block_no c.new-b.ensures, c.blocks-2.ensures, c.from.ensures) at c.in_err-put.ensures))

pub returns-clause-did : goal.returns-clause-did
unfolding entry_stores
returns-clause-did c =
    did-as refl
    (did_then (rw c.with_entry-next.ensures at c.in_ok-look_ahead.ensures) (rw (ap block_no c.new-b.ensures, c.blocks-2.ensures, c.from.ensures) at c.in_ok-put.ensures))
