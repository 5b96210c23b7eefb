-- `data_block`: what is there of sixteen bytes, and FF behind it.
-- Assumes nothing.
use mathlib.Core.List.{List}
use Prim.Native.Nat.{ℕ}
use native.Mathlib.Omega.{arith}
use lib.ListN.{drop, length-drop}
use Rattle.rules.specs.Notation.{erased}
use Rattle.rules.proofs.Basics.Lists.{part_to_end}
use Rattle.append.proofs.DataBlocks.{block_of}
use Rattle.append.proofs.data_block.Goals as goal

pub returns : goal.returns
unfolding erased
returns c =
    let w : List ℕ = drop c.args.from c.args.value.now in
    let left = length-drop c.args.from c.args.value.now in
    rw (c.copy_from_slice.ensures.after, part_to_end c.args.from c.args.value.now)
    (block_of w c.min-count.result (omega (arith, c.min-count.ensures)) (omega (arith, left, c.min-count.ensures)) (omega (arith, left, c.min-count.ensures)))
