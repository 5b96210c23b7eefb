-- `renewed::renewed_within`: the invariant is that the first n entries are indexed, and those of them marked that a later one of them renews.
-- Assumes nothing.
use mathlib.Core.Path.{refl, sym, ap, ◌∙◌}
use Prim.Native.Nat.{ℕ, ◌+◌, ◌<◌}
use native.Mathlib.Omega.{arith}
use lib.ListN.{length}
use Rattle.layout.specs.Numbers.{sector_no}
use Rattle.mask.specs.Marks.{max_marks, marks_of}
use Rattle.image.proofs.EntryBlocks.{entries-few}
use Rattle.index.specs.Index.{entries_of}
use Rattle.live.specs.Live.{renewed_flags}
use Rattle.live.proofs.RenewedMarks.{renewed-below, mark-found, mark-missed, within-next}
use Rattle.live.proofs.renewed.renewed_within.Given.{Over}
use Rattle.live.proofs.renewed.renewed_within.Goals as goal
use Rattle.live.proofs.renewed.renewed_within.Goals.{in-Some, in_default, In-loop-n, Start}

-- there is a mark for each of the entries
few : (g : Over) (k : Start g) → length (entries_of k.args.index.now) < max_marks
few g k =
    let x = k.args.index.now in
    entries-few x.image.geometry x.image.bytes.now (sector_no x.sector) x.inside

-- in a turn entry n is one of the sector's
here : (g : Over) (c : In-loop-n g) → c.loop-n.n < length (entries_of c.args.index.now)
here g c = omega (arith, c.loop-n-test.true, c.requires.counted)

pub loop-n-init : goal.loop-n-init
unfolding renewed_flags
loop-n-init g c = (refl, refl, c.requires.empty, c.none-renewed.ensures)

pub add-renewed-requires : goal.add-renewed-requires
add-renewed-requires g c =
    let t = goal.at.add-renewed-requires g c in
    omega (arith, renewed-below _ _ _ (sym c.renewed_entry.ensures ∙ c.in-Some.is), c.loop-n.invariant.2, here g t.In-loop-n, few g t.Start)

pub loop-n-preserved : goal.loop-n-preserved
loop-n-preserved g c =
    let t = goal.at.loop-n-preserved g c in
    let k = c.loop-n.invariant in
    let told = rw (k.0, k.1, k.2) at c.renewed_entry.ensures in (
      c.add.ensures.image ∙ k.0,
      c.add.ensures.sector ∙ k.1,
      c.add.ensures.counted ∙ ap (λ (m : ℕ). m + 1) k.2,
      within-next (entries_of c.args.index.now) c.loop-n.n (here g t.In-loop-n) (omega (arith, few g t.Start)) k.3
          (elim c.match-renewed_entry.branch [
            | in-Some w ↦ ap marks_of w.renewed-is ∙ w.add-renewed.ensures ∙ mark-found _ (sym told ∙ w.in-Some.is)
            | in_default w ↦ ap marks_of w.renewed-is ∙ mark-missed _ (sym told ∙ w.in_default.is)
          ]),
    )
