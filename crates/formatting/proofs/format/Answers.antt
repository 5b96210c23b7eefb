-- `format`: the blanking of sector 0's lead, all other blocks, and that lead.
-- Assumes nothing.
use mathlib.Core.Path.{ap}
use mathlib.Core.List.{List, [], ◌∷◌, ◌++◌, append_assoc}
use Prim.Native.Nat.{◌-◌}
use Rattle.rules.specs.Stores.{Store, blank_store, final_store, final_blocks, final_sectors, format}
use Rattle.layout.specs.declared.Geometry.{Geometry}
use Rattle.layout.specs.Numbers.{sector_no, block_no}
use Rattle.layout.specs.Geometry.{blocks_of, sectors_of}
use Rattle.budget.proofs.Laws.{Made, did_then, did-cut}
use Rattle.formatting.proofs.format.Goals as goal
use Rattle.formatting.proofs.format.Goals.{In_ok-put_blank, In_ok-put_blocks}

-- the parts of a format behind its first blanking
abbrev lower : Geometry → List Store
lower g = final_blocks (blocks_of g) 0 0 (blocks_of g - 1)

abbrev others : Geometry → List Store
others g = final_sectors (blocks_of g) 1 (sectors_of g - 1)

abbrev led : Geometry → List Store
led g = final_store (blocks_of g) 0 (blocks_of g - 1) ∷ []

first : (c : In_ok-put_blank) → Made c.args.writer.now (blank_store 0 (blocks_of c.args.writer.now.geometry - 1) ∷ []) c.put_blank.new.writer
first c = rw (ap sector_no c.new-first.ensures, ap block_no c.new-lead.ensures, c.blocks-2.ensures) at c.in_ok-put_blank.ensures

pub returns-in_err-put_blank : goal.returns-in_err-put_blank
unfolding format
returns-in_err-put_blank c =
    let g = c.args.writer.now.geometry in
    did-cut (lower g ++ others g ++ led g) (rw (ap sector_no c.new-first.ensures, ap block_no c.new-lead.ensures, c.blocks-2.ensures) at c.in_err-put_blank.ensures) c.from_residual.ensures.0

pub returns-in_err-put_blocks : goal.returns-in_err-put_blocks
unfolding format
returns-in_err-put_blocks c =
    let g = c.args.writer.now.geometry in
    let one = first (goal.at.returns-in_err-put_blocks c).In_ok-put_blank in
    rw append_assoc
    (did-cut (others g ++ led g)
    (did_then one (simp (ap blocks_of one.geometry, ap sector_no c.new-first.ensures, c.blocks-below_lead.ensures) at c.in_err-put_blocks.ensures)) c.from_residual-in_err-put_blocks.ensures.0)

two : (c : In_ok-put_blocks) → Made c.args.writer.now ((blank_store 0 (blocks_of c.args.writer.now.geometry - 1) ∷ []) ++ lower c.args.writer.now.geometry) c.put_blocks.new.writer
two c =
    let one = first (goal.at.In_ok-put_blocks c).In_ok-put_blank in
    did_then one (simp (ap blocks_of one.geometry, ap sector_no c.new-first.ensures, c.blocks-below_lead.ensures) at c.in_ok-put_blocks.ensures)

pub returns-in_err-put_sectors : goal.returns-in_err-put_sectors
unfolding format
returns-in_err-put_sectors c =
    let g = c.args.writer.now.geometry in
    let below = two (goal.at.returns-in_err-put_sectors c).In_ok-put_blocks in
    did-cut (led g) (did_then below (simp (ap blocks_of below.geometry, ap sectors_of below.geometry) at c.in_err-put_sectors.ensures)) c.from_residual-in_err-put_sectors.ensures.0

pub returns : goal.returns
unfolding format
returns c =
    let below = two (goal.at.returns c).In_ok-put_blocks in
    let all = did_then below (simp (ap blocks_of below.geometry, ap sectors_of below.geometry) at c.in_ok-put_sectors.ensures) in
    did_then all (simp (ap blocks_of all.geometry, ap sector_no c.new-first.ensures, ap block_no c.new-lead.ensures, c.blocks-2.ensures) at c.put_final.ensures)
