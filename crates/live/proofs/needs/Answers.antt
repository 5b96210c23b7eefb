-- `live::needs`: the invariant is that the sum and the needs from entry n on are the live needs.
-- Assumes nothing.
use mathlib.Core.Path.{◌≡◌, sym, ap, ◌∙◌}
use mathlib.Core.Bool.{true, Bool, false}
use mathlib.Core.List.{List}
use Prim.Native.Nat.{ℕ, ◌+◌, ◌-◌, ◌<◌}
use native.Mathlib.Omega.{arith}
use lib.ListN.{length, get_or}
use Rattle.rules.specs.Look.{data_blocks}
use Rattle.rules.specs.Entry.{length_of}
use Rattle.rules.specs.Ground.{block_at}
use Rattle.rules.specs.Meaning.{view_at, next, live_in, needs_of}
use Rattle.layout.specs.Geometry.{sectors_of, blocks_of}
use Rattle.layout.specs.Image.{sectors_in}
use Rattle.layout.specs.Numbers.{sector_no}
use Rattle.mask.specs.Flags.{padded}
use Rattle.mask.specs.Marks.{max_marks, marks_of}
use Rattle.mask.proofs.Padded.{padded-at}
use Rattle.image.specs.Answer.{views}
use Rattle.live.specs.Live.{live_flags_in}
use Rattle.image.proofs.EntryBlocks.{entries-few}
use Rattle.live.proofs.Counting.{entries-noted}
use Rattle.live.proofs.LiveNeeds.{needs_from, needs-all, needs-here, needs-passed, needs-none, needs-few}
use Rattle.live.proofs.needs.Goals as goal
use Rattle.live.proofs.needs.Goals.{then-has, else-has, After-has, In-loop-n}

-- in a turn entry n is one of the sector's, and has a mark
inside : (c : In-loop-n) → c.loop-n.n < length (view_at (views c.args.counted.now.image) (sector_no c.args.s)).entries
inside c =
    omega (arith, c.loop-n-test.true, c.at-n-end.ensures, entries-noted c.args.counted.now.image.geometry c.args.counted.now.image.bytes.now (sector_no c.args.s) c.requires.s_bound c.args.counted.now.counted)

marked : (c : In-loop-n) → c.loop-n.n < max_marks
marked c =
    omega (arith, inside c, entries-few c.args.counted.now.image.geometry c.args.counted.now.image.bytes.now (sector_no c.args.s) c.requires.s_bound)

-- the mark is the flag
told : (c : After-has) (u : ℕ) → c.loop-n.n < max_marks
    → marks_of c.marks-live.result ≡ padded max_marks (live_flags_in u (sector_no c.args.s) (views c.args.counted.now.image))
    → c.has.result ≡ get_or (live_flags_in u (sector_no c.args.s) (views c.args.counted.now.image)) c.loop-n.n false
told c u marked same =
    c.has.ensures
    ∙ ap (λ (l : List Bool). get_or l c.loop-n.n false) same
    ∙ padded-at max_marks _ c.loop-n.n marked

-- with the need of entry n the sum is still below the live needs
more : (c : After-has) (need u : ℕ) → c.loop-n.n < length (view_at (views c.args.counted.now.image) (sector_no c.args.s)).entries → c.loop-n.n < max_marks
    → c.has.result ≡ true
    → need ≡ 1 + data_blocks (length_of (block_at (sectors_in c.args.counted.now.image) (sector_no c.args.s) (blocks_of c.args.counted.now.image.geometry - 3 - c.loop-n.n)))
    → marks_of c.marks-live.result ≡ padded max_marks (live_flags_in u (sector_no c.args.s) (views c.args.counted.now.image))
    → c.loop-n.sum + need + needs_from u (sector_no c.args.s) (views c.args.counted.now.image) (c.loop-n.n + 1)
    ≡ needs_of (live_in u (sector_no c.args.s) (views c.args.counted.now.image))
more c need u here marked has is same =
    let step = needs-here c.args.counted.now.image.geometry c.args.counted.now.image.bytes.now u (sector_no c.args.s) c.requires.s_bound c.args.counted.now.image.backs c.loop-n.n here (sym (told c u marked same) ∙ has) in
    omega (arith, step, is, c.loop-n.invariant u same)

pub loop-n-init : goal.loop-n-init
loop-n-init c = λ u same. omega (arith, needs-all u (sector_no c.args.s) (views c.args.counted.now.image))

pub has-requires : goal.has-requires
has-requires c = marked (goal.at.has-requires c).In-loop-n

pub invariant_of-value_need : goal.invariant_of-value_need
invariant_of-value_need c =
    record { here = record { sector_inside = c.requires.s_bound; inside = inside (goal.at.invariant_of-value_need c).In-loop-n } }

pub overflow_add-sum : goal.overflow_add-sum
overflow_add-sum c =
    let t = goal.at.overflow_add-sum c in
    let u : ℕ = next (sectors_of c.args.counted.now.image.geometry) (sector_no c.args.counted.now.newest) in
    let few = needs-few c.args.counted.now.image.geometry c.args.counted.now.image.bytes.now u (sector_no c.args.s) c.requires.s_bound in
    let step = more t.After-has c.value_need-sum.result u (inside t.In-loop-n) (marked t.In-loop-n) c.if-has.true c.value_need-sum.ensures c.marks-live.ensures in
    omega (arith, step, few, c.args.counted.now.image.geometry.sound.blocks_to)

pub loop-n-preserved : goal.loop-n-preserved
loop-n-preserved c = λ u same.
    let t = goal.at.loop-n-preserved c in
    elim c.if-has.branch [
      | then-has w ↦
          let step = more t.After-has w.value_need-sum.result u (inside t.In-loop-n) (marked t.In-loop-n) w.if-has.true w.value_need-sum.ensures same in
          omega (arith, w.sum-is, step)
      | else-has w ↦
          let dead = sym (told t.After-has u (marked t.In-loop-n) same) ∙ w.if-has.false in
          let passed = needs-passed u (sector_no c.args.s) (views c.args.counted.now.image) c.loop-n.n (inside t.In-loop-n) dead in
          omega (arith, w.sum-is, passed, c.loop-n.invariant u same)
    ]

pub returns : goal.returns
returns c =
    let u : ℕ = next (sectors_of c.args.counted.now.image.geometry) (sector_no c.args.counted.now.newest) in
    let counted = entries-noted c.args.counted.now.image.geometry c.args.counted.now.image.bytes.now (sector_no c.args.s) c.requires.s_bound c.args.counted.now.counted in
    let past = needs-none u (sector_no c.args.s) (views c.args.counted.now.image) c.loop-n.n (omega (arith, c.loop-n-test.false, c.at-n-end.ensures, counted)) in
    omega (arith, past, c.loop-n.invariant u c.marks-live.ensures)
