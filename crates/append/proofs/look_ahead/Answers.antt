-- `look_ahead`: one store or none, by the test.
-- Assumes nothing.
use mathlib.Core.Path.{ap}
use Rattle.layout.specs.Numbers.{block_no}
use Rattle.append.specs.Append.{ahead_stores}
use Rattle.append.proofs.look_ahead.Goals as goal

pub returns : goal.returns
unfolding ahead_stores
returns c = rw (c.is_entry-test.ensures, c.image.ensures.geometry, c.image.ensures.bytes, ap block_no c.new-b.ensures, c.blocks-2.ensures) at c.put_blank_if.ensures
