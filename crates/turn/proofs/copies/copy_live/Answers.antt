-- `copies::copy_live`: one entry after another (`Gathering`).
-- Assumes nothing.
use mathlib.Core.Path.{◌≡◌, sym, ap, ◌∙◌}
use mathlib.Core.Bool.{Bool, false}
use mathlib.Core.List.{List}
use Prim.Native.Nat.{ℕ, ◌<◌}
use native.Mathlib.Omega.{arith}
use lib.ListN.{length, get_or}
use Rattle.rules.specs.Meaning.{view_at, next}
use Rattle.rules.proofs.Ring.Order.{next-lt, next-ne}
use Rattle.layout.specs.Numbers.{sector_no}
use Rattle.layout.specs.Geometry.{sectors_of}
use Rattle.mask.specs.Marks.{max_marks}
use Rattle.mask.proofs.Padded.{padded-at}
use Rattle.image.specs.declared.active.Active.{Active}
use Rattle.budget.specs.Budget.{shown}
use Rattle.image.proofs.EntryBlocks.{entries-few}
use Rattle.image.proofs.Laws.{carries-at}
use Rattle.live.specs.Live.{live_flags_in}
use Rattle.turn.proofs.Gathering.{copying-none, copying-end, gathered, copying-passed, still-inside, still-here, live-valued, live-within, copying-cut, copying-more}
use Rattle.turn.proofs.copies.copy_live.Goals as goal
use Rattle.turn.proofs.copies.copy_live.Goals.{then-has+in_ok-filled, else-has, After-has, In-loop-n}

module _ (c : In-loop-n) where
  -- the sector that is copied from
  abbrev from : ℕ
  from = next (sectors_of c.args.writer.now.geometry) (sector_no c.args.active.sector)

  from-inside : from < sectors_of c.args.writer.now.geometry
  from-inside = next-lt (sectors_of c.args.writer.now.geometry) (sector_no c.args.active.sector) c.requires.carries.inside

  apart : from ≡ sector_no c.args.active.sector → ⊥
  apart = next-ne (sectors_of c.args.writer.now.geometry) (sector_no c.args.active.sector) c.args.writer.now.geometry.sound.sectors_from

  -- in a turn entry n is one of the sector's
  here : c.loop-n.n < length (view_at (shown c.args.writer.now) from).entries
  here = omega (arith, c.loop-n-test.true, c.requires.counted)

  marked : c.loop-n.n < max_marks
  marked = omega (arith, here, entries-few c.args.writer.now.geometry c.args.writer.now.image.now from from-inside)

  -- what is copied goes on in the same sector
  to_is : sector_no c.loop-n.filled.sector ≡ sector_no c.args.active.sector
  to_is = ap (λ (x : Active). sector_no x.sector) c.loop-n.invariant.told

-- its mark is the flag
flag : (c : After-has) → get_or (live_flags_in (sector_no c.args.active.sector) (next (sectors_of c.args.writer.now.geometry) (sector_no c.args.active.sector)) (shown c.args.writer.now)) c.loop-n.n false ≡ c.has.result
flag c =
    sym
    (c.has.ensures
    ∙ ap (λ (l : List Bool). get_or l c.loop-n.n false) c.requires.live_marked
    ∙ padded-at max_marks _ c.loop-n.n (marked c.before))

pub loop-n-init : goal.loop-n-init
loop-n-init c =
    let u = sector_no c.args.active.sector in
    let S = sectors_of c.args.writer.now.geometry in
    copying-none (next S u) u c.args.writer.now (next-lt S u c.requires.carries.inside) c.requires.empty c.requires.carries.told

pub has-requires : goal.has-requires
has-requires c = marked (goal.at.has-requires c).In-loop-n

pub append_copy-requires : goal.append_copy-requires
append_copy-requires c =
    let k = (goal.at.append_copy-requires c).In-loop-n in
    let h = (goal.at.append_copy-requires c).After-has in
    let w = c.args.writer.now in
    let live = flag h ∙ c.if-has.true in
    let i = c.loop-n.invariant in
    let u = sector_no c.args.active.sector in
    let target = c.requires.carries.inside in
    record {
      from_bound = rw c.next_sector-from.ensures (still-inside (from k) u w i (here k) (from-inside k) target (apart k) live (from k) (from-inside k));
      apart = (λ e. apart k (sym c.next_sector-from.ensures ∙ e ∙ to_is k));
      n_in_bounds = rw c.next_sector-from.ensures (still-here (from k) u w i (here k) (from-inside k) target (apart k) live);
      valued = rw c.next_sector-from.ensures (live-valued (from k) u w i (here k) (from-inside k) target (apart k) live);
      carries = carries-at _ _ u (still-inside (from k) u w i (here k) (from-inside k) target (apart k) live u target) i.told;
      fits = rw c.next_sector-from.ensures (live-within (from k) u w i (here k) (from-inside k) target (apart k) live);
    }

pub returns-in_err-filled-clause-did : goal.returns-in_err-filled-clause-did
returns-in_err-filled-clause-did c =
    let k = (goal.at.returns-in_err-filled-clause-did c).In-loop-n in
    let h = (goal.at.returns-in_err-filled-clause-did c).After-has in
    copying-cut (from k) (sector_no c.args.active.sector) c.args.writer.now c.loop-n.invariant (here k) (from-inside k) c.requires.carries.inside (apart k)
    (flag h ∙ c.if-has.true) (simp (c.next_sector-from.ensures, to_is k) at c.in_err-filled.ensures.did) c.from_residual.ensures.0

pub loop-n-preserved : goal.loop-n-preserved
loop-n-preserved c =
    let k = (goal.at.loop-n-preserved c).In-loop-n in
    let h = (goal.at.loop-n-preserved c).After-has in
    elim c.if-has.branch [
      | then-has+in_ok-filled w ↦
          rw (w.writer-is, w.filled-is)
          (copying-more (from k) (sector_no c.args.active.sector) c.args.writer.now c.loop-n.invariant (here k) (from-inside k) c.requires.carries.inside (apart k)
          (flag h ∙ w.if-has.true) (rw (c.next_sector-from.ensures, to_is k) at w.in_ok-filled.ensures.did) (rw c.next_sector-from.ensures at w.in_ok-filled.ensures.active))
      | else-has w ↦
          rw (w.writer-is, w.filled-is)
          (copying-passed (from k) (sector_no c.args.active.sector) c.args.writer.now c.loop-n.invariant (here k) (flag h ∙ w.if-has.false))
    ]

pub returns-clause-did : goal.returns-clause-did
returns-clause-did c =
    copying-end (next (sectors_of c.args.writer.now.geometry) (sector_no c.args.active.sector)) (sector_no c.args.active.sector) c.args.writer.now c.loop-n.invariant (omega (arith, c.loop-n-test.false, c.requires.counted))

pub returns-clause-gathered : goal.returns-clause-gathered
returns-clause-gathered c =
    gathered (next (sectors_of c.args.writer.now.geometry) (sector_no c.args.active.sector)) (sector_no c.args.active.sector) c.args.writer.now c.loop-n.invariant
