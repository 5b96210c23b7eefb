-- `layout::le16` meets its contract: two bytes, the first the lowest.
-- Assumes nothing.
use Prim.Native.Nat.{◌+◌}
use native.Mathlib.Omega.{arith}
use Rattle.rules.proofs.Basics.Number.{number_more, number-one}
use Rattle.layout.proofs.le16.Goals as goal

pub returns : goal.returns
returns c = let b = c.args.block.now in
    let at = c.args.at in
    omega (
      arith,
      c.from_le_bytes.ensures,
      number_more b at (at + 1) 1 (omega arith) (omega arith),
      number-one b (at + 1) (omega arith),
    )
