-- `layout::Geometry::new` meets its contract: a test that fails refutes one of the facts of legal sizes, and all six tests are those facts.
-- Assumes nothing.
use native.Mathlib.Omega.{arith}
use Rattle.layout.proofs.Laws.{sizes-legal, sizes-illegal}
use Rattle.layout.proofs.Geometry.new.Goals as goal

pub returns-then-sector_size-ne0 : goal.returns-then-sector_size-ne0
returns-then-sector_size-ne0 c = sizes-illegal _ _ _ (λ l. let b = c.then-sector_size-ne0.branch in grind (arith, l.multiple, l.exact))

pub returns : goal.returns
returns c = sizes-legal _ _ _
    (record {
      multiple = c.if-sector_size-ne0.false;
      size_from = omega arith;
      size_to = omega arith;
      count_from = omega arith;
      count_to = omega arith;
      exact = c.if-image_len-count.false;
    })
