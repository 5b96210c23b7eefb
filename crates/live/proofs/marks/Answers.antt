-- `live::marks`: the invariant is that the marks are the flags of the entries below n, whichever sector is ignored.
-- Assumes nothing.
use mathlib.Core.Path.{◌≡◌, sym, ap, ◌∙◌}
use mathlib.Core.Bool.{Bool, true, false, not, ◌&&◌}
use mathlib.Core.List.{List}
use Prim.Native.Nat.{ℕ, ◌<◌, ◌≤◌}
use native.Mathlib.Omega.{arith}
use lib.ListN.{length, get_or, set}
use lib.Seq.{take_all}
use Rattle.rules.specs.Meaning.{next, is_value}
use Rattle.layout.specs.Geometry.{sectors_of}
use Rattle.layout.specs.Numbers.{sector_no}
use Rattle.mask.specs.Flags.{padded}
use Rattle.mask.specs.Marks.{max_marks, marks_of}
use Rattle.mask.proofs.Padded.{padded-set, padded-kept, padded-at}
use Rattle.image.specs.Answer.{no_entry, views}
use Rattle.live.specs.Live.{live_flags_in, renewed_flags_in}
use Rattle.image.proofs.EntryBlocks.{entries-few}
use Rattle.live.proofs.Counting.{entries-noted}
use Rattle.live.proofs.LiveLaws.{length-live-in}
use Rattle.index.specs.Tables.{entries_at}
use Rattle.live.proofs.RenewedLaws.{live-by-renewed}
use Rattle.live.proofs.marks.Goals as goal
use Rattle.live.proofs.marks.Goals.{then-is_live, else-is_live, After-at-n-end, After-is_live}

-- the entries that were counted are those of the sector, and there is a mark for each
counted : (c : After-at-n-end) → c.at-n-end.result ≡ length (entries_at c.args.counted.now.image c.args.s)
counted c = c.at-n-end.ensures ∙ entries-noted c.args.counted.now.image.geometry c.args.counted.now.image.bytes.now (sector_no c.args.s) c.requires.s_bound c.args.counted.now.counted

few : (c : After-at-n-end) → c.at-n-end.result < max_marks
few c =
    omega (arith, counted c, entries-few c.args.counted.now.image.geometry c.args.counted.now.image.bytes.now (sector_no c.args.s) c.requires.s_bound)

flags-count : (c : After-at-n-end) (u : ℕ) → length (live_flags_in u (sector_no c.args.s) (views c.args.counted.now.image)) ≡ c.at-n-end.result
flags-count c u = length-live-in u _ _ ∙ sym (counted c)

pub invariant_of-entry : goal.invariant_of-entry
invariant_of-entry c =
    record { here = record { sector_inside = c.requires.s_bound; inside = omega (arith, c.loop-n-test.true, counted (goal.at.invariant_of-entry c).After-at-n-end) } }

-- the answer is the flag
told : (c : After-is_live) (u : ℕ) → c.at-n-end.result ≡ length (entries_at c.args.counted.now.image c.args.s) → c.at-n-end.result < max_marks
    → marks_of c.marks-renewed.result ≡ padded max_marks (renewed_flags_in u (sector_no c.args.s) (views c.args.counted.now.image))
    → c.is_live.result ≡ get_or (live_flags_in u (sector_no c.args.s) (views c.args.counted.now.image)) c.loop-n.n false
told c u noted few same =
    let n : ℕ = c.loop-n.n in
    let marked : n < max_marks = omega (arith, c.loop-n-test.true) in
    c.is_live.ensures
    ∙ ap (λ (l : List Bool). is_value (get_or (entries_at c.args.counted.now.image c.args.s) n no_entry).head && not (get_or l n false)) same
    ∙ ap (λ (b : Bool). is_value (get_or (entries_at c.args.counted.now.image c.args.s) n no_entry).head && not b) (padded-at max_marks _ n marked)
    ∙ sym (live-by-renewed u (sector_no c.args.s) (views c.args.counted.now.image) n (omega (arith, c.loop-n-test.true)))

pub add-live-requires : goal.add-live-requires
add-live-requires c = omega (arith, c.loop-n-test.true, few (goal.at.add-live-requires c).After-at-n-end)

pub loop-n-preserved : goal.loop-n-preserved
loop-n-preserved c = λ u same.
    let t = goal.at.loop-n-preserved c in
    let n : ℕ = c.loop-n.n in
    let flags = live_flags_in u (sector_no c.args.s) (views c.args.counted.now.image) in
    let room : length flags ≤ max_marks = omega (arith, few t.After-at-n-end, flags-count t.After-at-n-end u) in
    let here : n < length flags = omega (arith, c.loop-n-test.true, flags-count t.After-at-n-end u) in
    let flag = told t.After-is_live u (counted t.After-at-n-end) (few t.After-at-n-end) same in
    elim c.if-is_live.branch [
      | then-is_live w ↦
          ap marks_of w.live-is ∙ w.add-live.ensures ∙ ap (λ (m : List Bool). set m n true) (c.loop-n.invariant u same)
          ∙ padded-set max_marks flags room n here (sym flag ∙ w.if-is_live.true)
      | else-is_live w ↦
          ap marks_of w.live-is ∙ c.loop-n.invariant u same
          ∙ padded-kept max_marks flags room n here (sym flag ∙ w.if-is_live.false)
    ]

pub returns : goal.returns
returns c =
    let u : ℕ = next (sectors_of c.args.counted.now.image.geometry) (sector_no c.args.counted.now.newest) in
    let flags = live_flags_in u (sector_no c.args.s) (views c.args.counted.now.image) in
    let past : length flags ≤ c.loop-n.n = omega (arith, c.loop-n-test.false, flags-count (goal.at.returns c).After-at-n-end u) in
    c.loop-n.invariant u c.marks-renewed.ensures ∙ ap (padded max_marks) (take_all c.loop-n.n flags past)
