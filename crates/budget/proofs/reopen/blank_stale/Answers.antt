-- `reopen::blank_stale`: both blocks are judged on the image before the first blank.
-- Assumes nothing.
use mathlib.Core.Path.{sym, ap, subst, ◌∙◌}
use Prim.Native.Nat.{◌-◌}
use native.Mathlib.Omega.{arith}
use Rattle.rules.specs.Ground.{block_at}
use Rattle.rules.specs.Look.{is_close, is_entry, look, start}
use Rattle.rules.specs.Stores.{blank_if}
use Rattle.layout.specs.Numbers.{sector_no, block_no}
use Rattle.layout.specs.Geometry.{blocks_of}
use Rattle.entry.specs.Answer.{scan_of, scan_as, Small}
use Rattle.budget.specs.Budget.{held, Did}
use Rattle.budget.proofs.Laws.{did_then, did-cut}
use Rattle.budget.proofs.reopen.blank_stale.Goals as goal
use Rattle.budget.proofs.reopen.blank_stale.Goals.{After-put_blank_if, After-put_blank_if-2}

small-start : Small (scan_as start)
unfolding start
small-start = record { needs = omega arith; data_end = omega arith }

-- the first blanking, and the second, each of the block that was judged
first : (c : After-put_blank_if)
    → let w = c.args.writer.now in
    let s = sector_no c.args.s in
    let top = blocks_of w.geometry - 2 in
    Did w (blank_if (is_close c.args.cycle (block_at (held w) s top)) s top) c.put_blank_if.new.writer c.put_blank_if.result
first c =
    rw (c.is_close-closed.ensures ∙ ap (is_close _) c.block.ensures, c.image.ensures.geometry, c.image.ensures.bytes, ap block_no c.new-top.ensures, c.blocks-2.ensures) at c.put_blank_if.ensures

second : (c : After-put_blank_if-2)
    → let w = c.args.writer.now in
    let s = sector_no c.args.s in
    let below = blocks_of w.geometry - 3 in
    Did c.put_blank_if.new.writer (blank_if (is_entry (look (blocks_of w.geometry) c.args.cycle start (block_at (held w) s below))) s below)
    c.put_blank_if-2.new.writer c.put_blank_if-2.result
second c = rw (c.is_entry-begun.ensures, c.image-2.ensures.geometry, c.image-2.ensures.bytes, ap scan_of c.start.ensures, ap block_no c.new-below.ensures, c.blocks-3.ensures) at c.put_blank_if-2.ensures

pub is_entry-begun-requires-clause-small : goal.is_entry-begun-requires-clause-small
is_entry-begun-requires-clause-small c = subst Small (sym c.start.ensures) small-start

pub returns-in_err-put_blank_if : goal.returns-in_err-put_blank_if
returns-in_err-put_blank_if c = did-cut _ (rw c.in_err-put_blank_if.was at (first (goal.at.returns-in_err-put_blank_if c).After-put_blank_if)) c.from_residual.ensures.0

pub returns : goal.returns
returns c = did_then (rw c.in_ok-put_blank_if.was at (first (goal.at.returns c).After-put_blank_if)) (second (goal.at.returns c).After-put_blank_if-2)
