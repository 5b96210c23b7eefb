-- `reopen::reopen`: the blankings under the next cycle, then its lead.
-- Assumes nothing.
use mathlib.Core.Path.{◌≡◌, refl, ap}
use mathlib.Core.List.{[], ◌∷◌, ◌++◌}
use Prim.Native.Nat.{◌+◌, ◌%◌}
use Rattle.rules.specs.Stores as rule
use Rattle.layout.specs.Numbers.{sector_no, block_no}
use Rattle.layout.specs.Geometry.{blocks_of}
use Rattle.budget.specs.Budget.{held}
use Rattle.budget.specs.Steps.{stale_blanks}
use Rattle.budget.proofs.Laws.{did_then, did-cut}
use Rattle.budget.proofs.Reopening.{lead_store, reopen-by}
use Rattle.budget.proofs.reopen.reopen.Goals as goal
use Rattle.budget.proofs.reopen.reopen.Goals.{After-cycle_at-next}

-- the stores due, by the cycle that was worked out
due : (c : After-cycle_at-next)
    → let w = c.args.writer.now in
    let B = blocks_of w.geometry in
    let next = (c.cycle_at-next.result + 1) % 256 in
    stale_blanks B (sector_no c.args.s) next (held w) ++ (lead_store B (sector_no c.args.s) next ∷ [])
    ≡ rule.reopen B (sector_no c.args.s) (held w)
unfolding rule.next_cycle
due c = reopen-by _ _ _ (rw (c.image.ensures.geometry, c.image.ensures.bytes) at c.cycle_at-next.ensures) refl

pub returns-in_err-blank_stale : goal.returns-in_err-blank_stale
returns-in_err-blank_stale c =
    rw (due (goal.at.returns-in_err-blank_stale c).After-cycle_at-next) at (did-cut (lead_store (blocks_of c.args.writer.now.geometry) (sector_no c.args.s) ((c.cycle_at-next.result + 1) % 256) ∷ []) c.in_err-blank_stale.ensures c.from_residual.ensures.0)

pub returns : goal.returns
returns c =
    rw (due (goal.at.returns c).After-cycle_at-next) at (did_then c.in_ok-blank_stale.ensures (rw (c.lead.ensures, ap block_no c.new-lead.ensures, c.blocks-2.ensures) at c.put.ensures))
