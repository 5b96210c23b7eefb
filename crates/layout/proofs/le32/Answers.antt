-- `layout::le32` meets its contract: four bytes, the first the lowest.
-- Assumes nothing.
use Prim.Native.Nat.{◌+◌}
use native.Mathlib.Omega.{arith}
use Rattle.rules.proofs.Basics.Number.{number_more, number-one}
use Rattle.layout.proofs.le32.Goals as goal

pub returns : goal.returns
returns c = let b = c.args.block.now in
    let at = c.args.at in
    omega (
      arith,
      c.from_le_bytes.ensures,
      number_more b at (at + 1) 3 (omega arith) (omega arith),
      number_more b (at + 1) (at + 2) 2 (omega arith) (omega arith),
      number_more b (at + 2) (at + 3) 1 (omega arith) (omega arith),
      number-one b (at + 3) (omega arith),
    )
