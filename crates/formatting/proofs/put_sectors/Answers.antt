-- `put_sectors`: one sector after another.
-- Assumes nothing.
use mathlib.Core.Path.{ap}
use Prim.Native.Nat.{◌+◌}
use native.Mathlib.Omega.{arith}
use Rattle.rules.specs.Stores.{final_sectors}
use Rattle.layout.specs.Numbers.{sector_no}
use Rattle.layout.specs.Geometry.{blocks_of, sectors_of}
use Rattle.budget.proofs.Laws.{did_none, did_then, did-cut}
use Rattle.formatting.proofs.Formatting.{sectors-split, sectors-next}
use Rattle.formatting.proofs.put_sectors.Goals as goal

pub loop-s-init : goal.loop-s-init
unfolding final_sectors
loop-s-init c = did_none _ _

pub returns-in_err-put_blocks : goal.returns-in_err-put_blocks
returns-in_err-put_blocks c =
    let l = c.loop-s in
    rw (sectors-split (blocks_of c.args.writer.now.geometry) (l.s + 1) (sectors_of c.args.writer.now.geometry) (omega arith) (omega (arith, c.sectors-s-end.ensures)), sectors-next (blocks_of c.args.writer.now.geometry) l.s (omega arith))
    (did-cut _ (did_then l.invariant (simp (ap blocks_of l.invariant.geometry, ap sector_no c.new.ensures, c.blocks-in-loop-s.ensures) at c.in_err-put_blocks.ensures)) c.from_residual.ensures.0)

pub loop-s-preserved : goal.loop-s-preserved
loop-s-preserved c =
    let l = c.loop-s in
    rw (sectors-next (blocks_of c.args.writer.now.geometry) l.s (omega arith))
    (did_then l.invariant (simp (ap blocks_of l.invariant.geometry, ap sector_no c.new.ensures, c.blocks-in-loop-s.ensures) at c.in_ok-put_blocks.ensures))
