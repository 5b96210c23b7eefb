-- `mount::mount_turn`: the unfinished sector is reopened, and then the turn made.
-- Assumes nothing.
use mathlib.Core.Path.{◌≡◌, refl, ap, ◌∙◌}
use mathlib.Core.List.{[]}
use Prim.Native.Nat.{ℕ}
use Rattle.rules.specs.Reading.{View}
use Rattle.rules.specs.Meaning.{view_at}
use Rattle.rules.specs.Stores.{reopen, finish_turn}
use Rattle.rules.proofs.Terms.{IsAtomic, reopened_view, changed}
use Rattle.rules.proofs.Blocks.Reopen.{reopen-atomic}
use Rattle.layout.specs.declared.Geometry.{Geometry}
use Rattle.layout.specs.Numbers.{sector_no}
use Rattle.layout.specs.Geometry.{blocks_of, sectors_of}
use Rattle.image.specs.declared.active.Active.{Active}
use Rattle.budget.specs.Budget.{held, shown}
use Rattle.budget.proofs.Laws.{whole_image, did-as, did-and-then, did-and-then-cut}
use Rattle.turn.proofs.Stepping.{atomic-lies, step-here}
use Rattle.turn.proofs.mount.mount_turn.Goals as goal
use Rattle.turn.proofs.mount.mount_turn.Goals.{In_ok-reopen, After-unused-empty}

-- the reopening shows at once
reopening : (d : In_ok-reopen) → IsAtomic (blocks_of d.args.writer.now.geometry) (sectors_of d.args.writer.now.geometry) (reopen (blocks_of d.args.writer.now.geometry) (sector_no d.args.u)) (held d.args.writer.now)
    (changed reopened_view (sector_no d.args.u) (shown d.args.writer.now))
reopening d = reopen-atomic d.args.writer.now.geometry.sound.blocks_from (whole_image d.args.writer.now) d.requires.u_bound

emptied : (d : In_ok-reopen) → (view_at (shown d.reopen.new.writer) (sector_no d.args.u)).entries ≡ []
emptied d =
    ap (λ (v : View). v.entries) (step-here d.args.writer.now reopened_view (sector_no d.args.u) (reopening d) d.in_ok-reopen.ensures d.requires.u_bound)

-- what is carried is that of the reopened sector
here : (d : After-unused-empty) → sector_no d.unused-empty.result.sector ≡ sector_no d.args.u
here d = ap (λ (x : Active). sector_no x.sector) d.unused-empty.ensures

pub returns-in_err-reopen : goal.returns-in_err-reopen
returns-in_err-reopen c =
    let w = c.args.writer.now in
    let u : ℕ = sector_no c.args.u in
    did-and-then-cut (reopen (blocks_of w.geometry) u) (finish_turn (blocks_of w.geometry) (sectors_of w.geometry) u) (held w) c.in_err-reopen.ensures c.from_residual.ensures.0

pub unused-empty-requires-clause-empty : goal.unused-empty-requires-clause-empty
unused-empty-requires-clause-empty c = rw (c.image-2.ensures.geometry, c.image-2.ensures.bytes) (emptied (goal.at.unused-empty-requires-clause-empty c).In_ok-reopen)

pub finish_turn-requires-clause-empty : goal.finish_turn-requires-clause-empty
finish_turn-requires-clause-empty c =
    ap (λ (s : ℕ). (view_at (shown c.reopen.new.writer) s).entries) (here (goal.at.finish_turn-requires-clause-empty c).After-unused-empty)
    ∙ emptied (goal.at.finish_turn-requires-clause-empty c).In_ok-reopen

pub returns-in_err-finish_turn : goal.returns-in_err-finish_turn
returns-in_err-finish_turn c =
    let k = goal.at.returns-in_err-finish_turn c in
    let w = c.args.writer.now in
    let u : ℕ = sector_no c.args.u in
    did-as c.from_residual-in_err-finish_turn.ensures.0
    (did-and-then (reopen (blocks_of w.geometry) u) (λ (g : Geometry). finish_turn (blocks_of g) (sectors_of g) u) (atomic-lies w (reopening k.In_ok-reopen)) c.in_ok-reopen.ensures
    (rw (here k.After-unused-empty) at c.in_err-finish_turn.ensures.did))

pub returns : goal.returns
returns c =
    let k = goal.at.returns c in
    let w = c.args.writer.now in
    let u : ℕ = sector_no c.args.u in
    did-as refl
    (did-and-then (reopen (blocks_of w.geometry) u) (λ (g : Geometry). finish_turn (blocks_of g) (sectors_of g) u) (atomic-lies w (reopening k.In_ok-reopen)) c.in_ok-reopen.ensures
    (rw (here k.After-unused-empty) at c.in_ok-finish_turn.ensures.did))
