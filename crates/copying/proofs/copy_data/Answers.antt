-- `copy_data`: one block after another; what is stored leaves the sector that they come from as it was.
-- Assumes nothing.
use mathlib.Core.Path.{◌≡◌, sym, ap, ◌∙◌}
use mathlib.Core.List.{[]}
use Prim.Native.Nat.{◌+◌, ◌≤◌, ◌<◌}
use native.Mathlib.Omega.{arith}
use lib.ListN.{length, get_or, take}
use lib.Seq.{length-take-le}
use Rattle.rules.specs.Ground.{block_at}
use Rattle.rules.specs.Look.{data_blocks}
use Rattle.rules.specs.Stores.{data_stores}
use Rattle.rules.proofs.Basics.Parts.{each_take}
use Rattle.rules.proofs.Blocks.Data.{data-lie}
use Rattle.layout.specs.Numbers.{sector_no, block_no}
use Rattle.layout.specs.Geometry.{blocks_of, sectors_of}
use Rattle.budget.specs.Budget.{held}
use Rattle.budget.proofs.Laws.{did_none}
use Rattle.append.proofs.DataBlocks.{data-more, data-cut}
use Rattle.copying.proofs.Copying.{source-count, source-block, source-sized, source_stays}
use Rattle.copying.proofs.copy_data.Goals as goal
use Rattle.copying.proofs.copy_data.Invariants.{blocks_from}
use Rattle.copying.proofs.copy_data.Goals.{In-loop-k}

-- there is a block more to copy
few : (c : In-loop-k) → c.loop-k.k < data_blocks c.args.source.length
few c = omega (arith, c.loop-k-test.true, c.data_blocks-k-end.ensures, ap data_blocks c.from.ensures)

inside : (c : In-loop-k) → c.loop-k.k < length (blocks_from c.args.writer.now (sector_no c.args.from) c.args.source)
inside c =
    omega (arith, few c, source-count c.args.writer.now (sector_no c.args.from) c.args.source.first (data_blocks c.args.source.length) c.requires.from_bound c.requires.source_inside)

-- the sector that is copied from is as it was
stays : (c : In-loop-k) → get_or (held c.loop-k.writer) (sector_no c.args.from) [] ≡ get_or (held c.args.writer.now) (sector_no c.args.from) []
stays c =
    let count = data_blocks c.args.source.length in
    let blocks = blocks_from c.args.writer.now (sector_no c.args.from) c.args.source in
    let below : c.args.active.scan.data_end + length (take c.loop-k.k blocks) ≤ blocks_of c.args.writer.now.geometry =
    omega (arith, length-take-le c.loop-k.k blocks (omega (arith, inside c)), few c, c.requires.target_inside) in
    let lie = data-lie (blocks_of c.args.writer.now.geometry) (sectors_of c.args.writer.now.geometry) (sector_no c.args.active.sector) c.args.active.scan.data_end c.requires.sector_bound below
    (each_take c.loop-k.k (source-sized c.args.writer.now (sector_no c.args.from) c.args.source.first count c.requires.from_bound c.requires.source_inside)) in
    source_stays (sector_no c.args.active.sector) c.args.active.scan.data_end (sector_no c.args.from) (take c.loop-k.k blocks) c.requires.apart lie c.loop-k.invariant

pub loop-k-init : goal.loop-k-init
unfolding data_stores
loop-k-init c = did_none _ _

pub returns-in_err-put : goal.returns-in_err-put
unfolding block_at
returns-in_err-put c =
    let k = goal.at.returns-in_err-put c in
    let s = sector_no c.args.active.sector in
    let b = c.args.active.scan.data_end in
    let blocks = blocks_from c.args.writer.now (sector_no c.args.from) c.args.source in
    let same = source-block c.args.writer.now (sector_no c.args.from) c.args.source.first (data_blocks c.args.source.length) c.requires.from_bound c.requires.source_inside c.loop-k.k (few k.In-loop-k) in
    let block = rw (ap block_no c.new.ensures, c.image.ensures.geometry, c.image.ensures.bytes, stays k.In-loop-k) at c.block-block.ensures ∙ sym same in
    data-cut s b blocks (c.loop-k.k + 1)
    (data-more s b blocks c.loop-k.k c.loop-k.invariant (inside k.In-loop-k) (rw (ap block_no c.new-b.ensures, block) at c.in_err-put.ensures)) c.from_residual.ensures.0

pub loop-k-preserved : goal.loop-k-preserved
unfolding block_at
loop-k-preserved c =
    let k = goal.at.loop-k-preserved c in
    let same = source-block c.args.writer.now (sector_no c.args.from) c.args.source.first (data_blocks c.args.source.length) c.requires.from_bound c.requires.source_inside c.loop-k.k (few k.In-loop-k) in
    let block = rw (ap block_no c.new.ensures, c.image.ensures.geometry, c.image.ensures.bytes, stays k.In-loop-k) at c.block-block.ensures ∙ sym same in
    data-more (sector_no c.args.active.sector) c.args.active.scan.data_end _ c.loop-k.k c.loop-k.invariant (inside k.In-loop-k) (rw (ap block_no c.new-b.ensures, block) at c.in_ok-put.ensures)
