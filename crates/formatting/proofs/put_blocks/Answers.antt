-- `put_blocks`: one block after another.
-- Assumes nothing.
use mathlib.Core.Path.{ap}
use Prim.Native.Nat.{◌+◌}
use native.Mathlib.Omega.{arith}
use Rattle.rules.specs.Stores.{final_blocks}
use Rattle.layout.specs.Numbers.{sector_no, block_no}
use Rattle.layout.specs.Geometry.{blocks_of}
use Rattle.budget.proofs.Laws.{did_none, did_then, did-cut}
use Rattle.formatting.proofs.Formatting.{blocks-split, blocks-next}
use Rattle.formatting.proofs.put_blocks.Goals as goal

pub loop-b-init : goal.loop-b-init
unfolding final_blocks
loop-b-init c = did_none _ _

pub returns-in_err-put_final : goal.returns-in_err-put_final
returns-in_err-put_final c =
    let l = c.loop-b in
    rw (blocks-split (blocks_of c.args.writer.now.geometry) (sector_no c.args.s) (l.b + 1) c.args.count (omega arith), blocks-next (blocks_of c.args.writer.now.geometry) (sector_no c.args.s) l.b)
    (did-cut _ (did_then l.invariant (simp (ap blocks_of l.invariant.geometry, ap block_no c.new.ensures) at c.in_err-put_final.ensures)) c.from_residual.ensures.0)

pub loop-b-preserved : goal.loop-b-preserved
loop-b-preserved c =
    let l = c.loop-b in
    rw (blocks-next (blocks_of c.args.writer.now.geometry) (sector_no c.args.s) l.b)
    (did_then l.invariant (simp (ap blocks_of l.invariant.geometry, ap block_no c.new.ensures) at c.in_ok-put_final.ensures))
