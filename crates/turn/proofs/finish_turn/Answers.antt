-- `finish_turn`: the copies, and then the end of the turn.
-- Assumes nothing.
use mathlib.Core.Path.{◌≡◌, ap}
use Prim.Native.Nat.{ℕ}
use native.Mathlib.Omega.{arith}
use Rattle.rules.specs.Reading.{View}
use Rattle.rules.specs.Meaning.{next}
use Rattle.rules.specs.Stores.{◌and_then◌, append, append_all, survivors, done_entry, reopen, finish_turn}
use Rattle.layout.specs.declared.Geometry.{Geometry}
use Rattle.layout.specs.Numbers.{sector_no}
use Rattle.layout.specs.Geometry.{blocks_of, sectors_of}
use Rattle.image.specs.declared.active.Active.{Active}
use Rattle.image.proofs.Laws.{carries-at}
use Rattle.budget.specs.Budget.{held}
use Rattle.turn.proofs.Stepping.{turned_then, turned-cut}
use Rattle.turn.proofs.Turning.{survivors-lie}
use Rattle.turn.proofs.finish_turn.Goals as goal

pub returns-in_err-filled : goal.returns-in_err-filled
unfolding finish_turn
returns-in_err-filled c =
    let w = c.args.writer.now in
    let B : ℕ = blocks_of w.geometry in
    let u : ℕ = sector_no c.args.active.sector in
    turned-cut (append_all B u (survivors B u (held w))) (append B u done_entry and_then reopen B (next (sectors_of w.geometry) u)) (held w)
    c.in_err-filled.ensures.did c.from_residual.ensures.0

pub end_turn-requires-clause-carries : goal.end_turn-requires-clause-carries
end_turn-requires-clause-carries c =
    let did = c.in_ok-filled.ensures.did in
    carries-at _ _ (sector_no c.args.active.sector) (omega (arith, ap sectors_of did.geometry, c.requires.carries.inside)) c.in_ok-filled.ensures.gathered.told

pub returns : goal.returns
unfolding finish_turn
returns c =
    let w = c.args.writer.now in
    let B : ℕ = blocks_of w.geometry in
    let u : ℕ = sector_no c.args.active.sector in
    let left = c.in_ok-filled.ensures.gathered in
    let here : sector_no c.in_ok-filled.filled.sector ≡ u = ap (λ (x : Active). sector_no x.sector) left.told in
    turned_then (append_all B u (survivors B u (held w))) (λ (g : Geometry). append (blocks_of g) u done_entry and_then reopen (blocks_of g) (next (sectors_of g) u))
    (survivors-lie w u c.requires.carries.inside c.requires.empty) c.in_ok-filled.ensures.did
    (λ t other. ap (λ (v : View). v.entries) (left.others t other)) (rw here at c.end_turn.ensures)
