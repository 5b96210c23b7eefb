-- `live::value_need`: the length field of the entry's block decides.
-- Assumes nothing.
use native.Mathlib.Omega.{arith}
use Rattle.rules.proofs.Format.Look.{data-blocks-le}
use Rattle.live.proofs.value_need.Goals as goal

pub overflow_add-result : goal.overflow_add-result
overflow_add-result c = omega (arith, c.data_blocks.ensures, data-blocks-le c.length_in.result)
