-- `put_final`: kind and bytes are those of the final store.
-- Assumes nothing.
use mathlib.Core.Path.{refl, sym, ap, ◌∙◌}
use Rattle.rules.specs.Stores.{blank_store}
use Rattle.layout.specs.Numbers.{sector_no, block_no}
use Rattle.layout.specs.Geometry.{blocks_of}
use Rattle.budget.specs.Budget.{kind_of}
use Rattle.formatting.specs.Finals.{kind_bytes}
use Rattle.formatting.proofs.Formatting.{final-by}
use Rattle.formatting.proofs.put_final.Goals as goal

pub returns-in-Blank : goal.returns-in-Blank
unfolding kind_bytes blank_store
returns-in-Blank c =
    let known = ap kind_of (sym c.in-Blank.is) ∙ c.final_kind-kind.ensures in
    rw (final-by (blocks_of c.args.writer.now.geometry) (sector_no c.args.s) (block_no c.args.b) known refl) at c.put_blank.ensures

pub returns : goal.returns
returns c =
    rw (final-by (blocks_of c.args.writer.now.geometry) (sector_no c.args.s) (block_no c.args.b) c.final_kind-kind.ensures c.final_bytes.ensures) at c.put.ensures
