-- `end_turn`: the done shows at once in the active sector, and the reopening in the one after it.
-- Assumes nothing.
use mathlib.Core.Path.{◌≡◌, refl, sym, ap, ◌∙◌}
use Prim.Native.Nat.{ℕ, ◌<◌}
use native.Mathlib.Omega.{arith}
use Rattle.std.proofs.lemmas.Result.{IfOk-from_err}
use Rattle.rules.specs.Notation.{Each}
use Rattle.rules.specs.Reading.{View}
use Rattle.rules.specs.Meaning.{next}
use Rattle.rules.specs.Stores.{append, reopen, done_entry}
use Rattle.rules.proofs.Terms.{IsAtomic, reopened_view, changed}
use Rattle.rules.proofs.Blocks.OnBytes.{Lies}
use Rattle.rules.proofs.Blocks.Made.{done-proper}
use Rattle.rules.proofs.Blocks.Reopen.{reopen-atomic}
use Rattle.rules.proofs.Ring.Order.{next-lt, next-ne}
use Rattle.layout.specs.declared.Geometry.{Geometry}
use Rattle.layout.specs.Numbers.{sector_no}
use Rattle.layout.specs.Geometry.{blocks_of, sectors_of}
use Rattle.entry.specs.declared.Head.{Head}
use Rattle.image.specs.Answer.{active_as}
use Rattle.budget.specs.Budget.{held, shown}
use Rattle.budget.proofs.Laws.{whole_image, did-as, did-and-then}
use Rattle.append.specs.Append.{entry_for, entry_of}
use Rattle.append.proofs.AfterAppend.{append-lies, appended-active, appended-others}
use Rattle.turn.proofs.Stepping.{step-here, step-others, turned-cut}
use Rattle.turn.proofs.end_turn.Goals as goal
use Rattle.turn.proofs.end_turn.Goals.{Start, After-done}

module _ (c : Start) where
  -- the sector after the active one
  oldest-inside : next (sectors_of c.args.writer.now.geometry) (sector_no c.args.active.sector) < sectors_of c.args.writer.now.geometry
  oldest-inside = next-lt (sectors_of c.args.writer.now.geometry) (sector_no c.args.active.sector) c.requires.carries.inside

  -- the done lies within the image
  lies : Each (Lies (blocks_of c.args.writer.now.geometry) (sectors_of c.args.writer.now.geometry)) (append (blocks_of c.args.writer.now.geometry) (sector_no c.args.active.sector) done_entry (held c.args.writer.now))
  unfolding done_entry
  lies = append-lies c.args.writer.now c.requires.carries.inside c.requires.carries.told done-proper c.requires.done_fits

-- the entry that is appended is the done
due : (c : After-done) → entry_of c.done.result ≡ done_entry
due c = ap (λ (h : Head). entry_for h c.done.result.value.now) c.done.ensures.head

pub returns-in_err-working : goal.returns-in_err-working
returns-in_err-working c =
    let w = c.args.writer.now in
    let u : ℕ = sector_no c.args.active.sector in
    turned-cut (append (blocks_of w.geometry) u done_entry) (reopen (blocks_of w.geometry) (next (sectors_of w.geometry) u)) (held w)
    (rw (due (goal.at.returns-in_err-working c).After-done) at c.in_err-working.ensures.did) c.from_residual.ensures.0

pub reopen-requires : goal.reopen-requires
reopen-requires c =
    omega (arith, ap sectors_of c.in_ok-working.ensures.did.geometry, c.next_sector-oldest.ensures, oldest-inside (goal.at.reopen-requires c).Start)

pub returns-in_err-reopen : goal.returns-in_err-reopen
returns-in_err-reopen c =
    let w = c.args.writer.now in
    let u : ℕ = sector_no c.args.active.sector in
    let cut = c.from_residual-in_err-reopen.ensures.0 in
    record {
      did = did-as cut
          (did-and-then (append (blocks_of w.geometry) u done_entry) (λ (g : Geometry). reopen (blocks_of g) (next (sectors_of w.geometry) u)) (lies (goal.at.returns-in_err-reopen c).Start)
          (rw (due (goal.at.returns-in_err-reopen c).After-done) at c.in_ok-working.ensures.did) (rw c.next_sector-oldest.ensures at c.in_err-reopen.ensures));
      moved = IfOk-from_err _ _ cut;
    }

pub returns : goal.returns
unfolding done_entry
returns c =
    let w = c.args.writer.now in
    let B : ℕ = blocks_of w.geometry in
    let S : ℕ = sectors_of w.geometry in
    let u : ℕ = sector_no c.args.active.sector in
    let o : ℕ = next S u in
    let middle = c.append.new.writer in
    let did = rw (due (goal.at.returns c).After-done) at c.in_ok-working.ensures.did in
    let k = (goal.at.returns c).Start in
    let carried = c.requires.carries in
    let apart : o ≡ u → ⊥ = next-ne S u w.geometry.sound.sectors_from in
    let reopened = rw c.next_sector-oldest.ensures at c.in_ok-reopen.ensures in
    let inside : o < sectors_of middle.geometry = omega (arith, ap sectors_of did.geometry, oldest-inside k) in
    let atomic : IsAtomic (blocks_of middle.geometry) (sectors_of middle.geometry) (reopen (blocks_of middle.geometry) o) (held middle) (changed reopened_view o (shown middle)) =
    reopen-atomic middle.geometry.sound.blocks_from (whole_image middle) inside in
    let others = step-others middle reopened_view o atomic reopened in
    record {
      did = did-as refl (did-and-then (append B u done_entry) (λ (g : Geometry). reopen (blocks_of g) o) (lies k) did reopened);
      moved = record {
        told =
            rw c.done.ensures.head at c.in_ok-working.ensures.active
            ∙ appended-active w carried.inside carried.told done-proper c.requires.done_fits did
            ∙ ap (active_as u) (sym (others u (λ same. apart (sym same))));
        unused = ap (λ (v : View). v.entries) (step-here middle reopened_view o atomic reopened inside);
        others = λ t other away.
            ap (λ (v : View). v.entries) (others t away ∙ appended-others w carried.inside carried.told done-proper c.requires.done_fits did t other);
      };
    }
