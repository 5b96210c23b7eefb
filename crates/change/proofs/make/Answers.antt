-- `make`: the entry where it fits as it is, else the change after turns.
-- Assumes nothing.
use mathlib.Core.Path.{◌≡◌, refl, sym, ap, ◌∙◌}
use mathlib.Core.Bool.{true, not}
use mathlib.Core.List.{List}
use mathlib.Core.Option.{some}
use Prim.Native.Nat.{ℕ, ◌<◌}
use native.Mathlib.Omega.{arith}
use Rattle.std.specs.Prelude.{Result, Ok, Err, is_ok, is_err}
use Rattle.rules.specs.Ground.{Image}
use Rattle.rules.specs.Look.{need_of}
use Rattle.rules.specs.Reading.{Entry}
use Rattle.rules.specs.Meaning.{at_rest, view_at}
use Rattle.rules.specs.Stores.{Store, nothing, ◌and_then◌, apply, append, turns, moved, change}
use Rattle.rules.specs.Calls as calls
use Rattle.rules.specs.Calls.{change_on}
use Rattle.rules.proofs.Crash.Resting.{change-some}
use Rattle.layout.specs.Numbers.{sector_no}
use Rattle.layout.specs.Geometry.{blocks_of, sectors_of}
use Rattle.entry.specs.Answer.{scan_of, head_of, limit_of}
use Rattle.image.specs.declared.active.Active.{Active}
use Rattle.image.specs.Answer.{active_as, views_in, Carries}
use Rattle.image.proofs.Laws.{rest-inside, carries-at, scan-bounded}
use Rattle.live.proofs.FitLaws.{fits-open}
use Rattle.budget.specs.Budget.{Did}
use Rattle.budget.proofs.Laws.{did-as}
use Rattle.append.specs.Append.{entry_of}
use Rattle.append.proofs.Appending.{blocks_in, entry-head}
use Rattle.answer.proofs.Leaving.{left-within, leaves-made, leaves-same, own-size}
use Rattle.change.proofs.Room.{within-fits, active-needs}
use Rattle.std.proofs.lemmas.Grind.{common_steps}
use Rattle.change.proofs.make.Goals as goal
use Rattle.change.proofs.make.Goals.{After-admits, After-map-made, After-read-active, Start}

-- with no turn a change is its entry
change-now : (B S w : ℕ) (e : Entry) (im : Image) → change B S 0 w e im ≡ append B w e im
unfolding change turns moved nothing ◌and_then◌ apply
change-now B S w e im = refl

-- an error is what is no answer
not-ok : {T E : Type 0} (r : Result T E) → is_err r ≡ not (is_ok r)
not-ok (Ok x) = refl
not-ok (Err e) = refl

-- what was read is the working sector
inside : (k : Start) → sector_no k.args.w < sectors_of k.args.g
inside k = rest-inside k.args.g k.args.image.now (sector_no k.args.w) k.requires.rest

-- what was read of the image that the writer lends is that of the image
read-is : (c : After-read-active) → c.read-active.result ≡ active_as (sector_no c.args.w) (view_at (views_in c.args.g c.args.image.now) (sector_no c.args.w))
read-is c =
    rw (c.image.ensures.geometry, c.image.ensures.bytes, c.new-writer.ensures.geometry, c.new-writer.ensures.image) at c.read-active.ensures

module _ (c : After-admits) where
  told : c.read-active.result ≡ active_as (sector_no c.args.w) (view_at (views_in c.args.g c.args.image.now) (sector_no c.args.w))
  told = read-is (goal.at.After-admits c).After-read-active

  here : sector_no c.read-active.result.sector ≡ sector_no c.args.w
  here = ap (λ (x : Active). sector_no x.sector) told

  carried : Carries c.args.g c.args.image.now c.read-active.result
  carried = carries-at c.args.g c.args.image.now (sector_no c.args.w) (rest-inside c.args.g c.args.image.now (sector_no c.args.w) c.requires.rest) told

  -- the entry alone is due, where it fits
  due-now : c.admits.result ≡ true
      → change_on (blocks_of c.args.g) (sectors_of c.args.g) (sector_no c.args.w) (limit_of (blocks_of c.args.g) (head_of c.args.entry.now.head)) (entry_of c.args.entry.now) (blocks_in c.args.g c.args.image.now)
      ≡ calls.make (append (blocks_of c.args.g) (sector_no c.args.w) (entry_of c.args.entry.now) (blocks_in c.args.g c.args.image.now)) 0
  due-now fits =
      let w : ℕ = sector_no c.args.w in
      let e : Entry = entry_of c.args.entry.now in
      let limit : ℕ = limit_of (blocks_of c.args.g) (head_of c.args.entry.now.head) in
      let same = ap need_of (entry-head c.args.entry.now) in
      let room = within-fits (blocks_of c.args.g) (scan_of c.read-active.result.scan) (head_of c.args.entry.now.head) c.requires.changes.plain (sym c.admits.ensures ∙ fits) in
      let needs = active-needs c.args.g c.args.image.now carried in
      change-some (blocks_of c.args.g) (sectors_of c.args.g) w limit e (blocks_in c.args.g c.args.image.now) 0
      (fits-open (need_of e.head) limit w (views_in c.args.g c.args.image.now) (rw (sym here) (omega (arith, room, needs, same))))
      ∙ ap (λ (ss : List Store). calls.make ss 0) (change-now (blocks_of c.args.g) (sectors_of c.args.g) w e (blocks_in c.args.g c.args.image.now))

-- what was done, by the writer of the allowance
appended : (c : After-map-made)
    → Did c.new-writer.result (append (blocks_of c.args.g) (sector_no c.args.w) (entry_of c.args.entry.now) (blocks_in c.args.g c.args.image.now)) c.append.new.writer c.map-made.result
appended c =
    let w = c.new-writer.ensures in
    let same = not-ok c.map-made.result ∙ ap not c.map-made.ensures.variant ∙ sym (not-ok c.append.result) in
    did-as same (simp (here (goal.at.After-map-made c).After-admits, ap blocks_of w.geometry, ap sectors_of w.geometry, w.image) at c.append.ensures.did)

pub read-active-requires : goal.read-active-requires
read-active-requires c =
    omega (arith, inside (goal.at.read-active-requires c).Start, ap sectors_of c.image.ensures.geometry, ap sectors_of c.new-writer.ensures.geometry)

pub admits-requires : goal.admits-requires
admits-requires c =
    rw (read-is (goal.at.admits-requires c).After-read-active) (scan-bounded c.args.g c.args.image.now (sector_no c.args.w) (inside (goal.at.admits-requires c).Start)).small

pub append-requires-clause-carries : goal.append-requires-clause-carries
append-requires-clause-carries c =
    rw (c.new-writer.ensures.geometry, c.new-writer.ensures.image) (carried (goal.at.append-requires-clause-carries c).After-admits)

pub ended-requires : goal.ended-requires
ended-requires c = left-within c.new-writer.ensures.budget (appended (goal.at.ended-requires c).After-map-made)

pub returns-then-admits : goal.returns-then-admits
returns-then-admits c =
    let w = c.new-writer.ensures in
    let due = due-now (goal.at.returns-then-admits c).After-admits c.if-admits.true in
    let size = ap blocks_of w.geometry ∙ own-size c.args.g in
    let left = leaves-made w.budget (appended (goal.at.returns-then-admits c).After-map-made) _ 0 size due in
    let same = c.append.ensures.did.same ∙ w.same in
    rw c.ended.ensures (leaves-same (rw w.image at left) (grind (arith, common_steps, same)))

pub make_turning-requires-clause-opened : goal.make_turning-requires-clause-opened
make_turning-requires-clause-opened c =
    let k = (goal.at.make_turning-requires-clause-opened c).After-admits in
    record {
      carried = rw (c.new-writer.ensures.geometry, c.new-writer.ensures.image) (carried k);
      rest = rw (c.new-writer.ensures.geometry, c.new-writer.ensures.image) (c.requires.rest ∙ ap (λ (s : ℕ). some (at_rest s)) (sym (here k)));
    }
