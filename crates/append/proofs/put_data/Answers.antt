-- `put_data`: one data block after another, each of the value's bytes from its place on.
-- Assumes nothing.
use mathlib.Core.Path.{◌≡◌, sym, ap, ◌∙◌}
use mathlib.Core.List.{[]}
use Prim.Native.Nat.{◌+◌, ◌*◌, ◌<◌}
use native.Mathlib.Omega.{arith}
use lib.ListN.{length, get_or}
use Rattle.rules.specs.Ground.{block_size}
use Rattle.rules.specs.Look.{data_blocks}
use Rattle.rules.specs.Stores.{data_stores}
use Rattle.rules.proofs.Blocks.Data.{block-begins, value-count, value-block}
use Rattle.layout.specs.Numbers.{sector_no, block_no}
use Rattle.append.specs.Append.{value_blocks}
use Rattle.budget.proofs.Laws.{did_none}
use Rattle.append.proofs.DataBlocks.{data-more, data-cut, data-all}
use Rattle.append.proofs.put_data.Goals as goal
use Rattle.append.proofs.put_data.Goals.{After-data_block-block, In-loop-k}

few : (c : In-loop-k) → c.loop-k.k < data_blocks (length c.args.value.now)
few c = omega (arith, c.loop-k-test.true, c.data_blocks-k-end.ensures)

-- the block that is stored begins within the value
begins : (c : In-loop-k) → c.loop-k.k * block_size < length c.args.value.now
begins c = block-begins _ _ (few c)

-- it is the next of the value's
block : (c : After-data_block-block) → c.data_block-block.result ≡ get_or (value_blocks c.args.value.now) c.loop-k.k []
block c = c.data_block-block.ensures ∙ sym (value-block 0 c.args.value.now c.loop-k.k (omega (arith, c.loop-k-test.true, c.data_blocks-k-end.ensures)))

inside : (c : In-loop-k) → c.loop-k.k < length (value_blocks c.args.value.now)
inside c = omega (arith, value-count 0 c.args.value.now, few c)

pub loop-k-init : goal.loop-k-init
unfolding data_stores
loop-k-init c = did_none _ _

pub data_block-block-requires : goal.data_block-block-requires
data_block-block-requires c = omega (arith, begins (goal.at.data_block-block-requires c).In-loop-k)

pub returns-in_err-put : goal.returns-in_err-put
returns-in_err-put c =
    let s = sector_no c.args.active.sector in
    let b = c.args.active.scan.data_end in
    let blocks = value_blocks c.args.value.now in
    data-cut s b blocks (c.loop-k.k + 1)
    (data-more s b blocks c.loop-k.k c.loop-k.invariant (inside (goal.at.returns-in_err-put c).In-loop-k)
    (rw (ap block_no c.new-b.ensures, block (goal.at.returns-in_err-put c).After-data_block-block) at c.in_err-put.ensures)) c.from_residual.ensures.0

pub loop-k-preserved : goal.loop-k-preserved
loop-k-preserved c =
    data-more (sector_no c.args.active.sector) c.args.active.scan.data_end (value_blocks c.args.value.now) c.loop-k.k c.loop-k.invariant (inside (goal.at.loop-k-preserved c).In-loop-k)
    (rw (ap block_no c.new-b.ensures, block (goal.at.loop-k-preserved c).After-data_block-block) at c.in_ok-put.ensures)

pub returns : goal.returns
returns c =
    data-all (sector_no c.args.active.sector) c.args.active.scan.data_end (value_blocks c.args.value.now) c.loop-k.k c.loop-k.invariant
    (omega (arith, value-count 0 c.args.value.now, c.loop-k-test.false, c.data_blocks-k-end.ensures))
