-- `turn_and_append`: the turns, and then the entry, for which they made room.
-- Assumes nothing.
use mathlib.Core.Path.{◌≡◌, refl, sym, subst}
use mathlib.Core.Bool.{true}
use Rattle.rules.specs.Look.{need_of, is_within}
use Rattle.layout.specs.declared.Geometry.{Geometry}
use Rattle.layout.specs.Numbers.{sector_no}
use Rattle.layout.specs.Geometry.{blocks_of}
use Rattle.entry.specs.Answer.{scan_of, head_of, limit_of}
use Rattle.budget.proofs.Laws.{did-as}
use Rattle.append.specs.Append.{entry_of}
use Rattle.change.proofs.Room.{room-left, change-did, change-cut, fits-within}
use Rattle.change.proofs.turn_and_append.Goals as goal

pub returns-in_err-working : goal.returns-in_err-working
returns-in_err-working c =
    change-cut c.args.writer.now (sector_no c.args.active.sector) c.args.turn_count (entry_of c.args.entry.now) c.in_err-working.ensures.did c.from_residual.ensures.0

pub append-requires-clause-fits : goal.append-requires-clause-fits
append-requires-clause-fits c =
    let g : Geometry = c.args.writer.now.geometry in
    let turned = c.in_ok-working.ensures in
    let room =
    room-left c.args.writer.now (sector_no c.args.active.sector) c.args.turn_count c.requires.opened.rest turned.did turned.working
    (need_of (head_of c.args.entry.now.head)) (limit_of (blocks_of g) (head_of c.args.entry.now.head)) c.requires.room turned.rests.carried.told in
    subst (λ (g : Geometry). is_within (blocks_of g) (scan_of c.in_ok-working.working.scan) (head_of c.args.entry.now.head) ≡ true) (sym turned.did.geometry)
    (fits-within (blocks_of g) (scan_of c.in_ok-working.working.scan) (head_of c.args.entry.now.head) c.requires.changes.plain room)

pub returns-in_err-append : goal.returns-in_err-append
returns-in_err-append c =
    did-as c.from_residual-in_err-append.ensures.0
    (change-did c.args.writer.now (sector_no c.args.active.sector) c.args.turn_count c.requires.opened.rest c.in_ok-working.ensures.did c.in_ok-working.ensures.working
    (entry_of c.args.entry.now) c.in_err-append.ensures.did)

pub returns : goal.returns
returns c =
    did-as refl
    (change-did c.args.writer.now (sector_no c.args.active.sector) c.args.turn_count c.requires.opened.rest c.in_ok-working.ensures.did c.in_ok-working.ensures.working
    (entry_of c.args.entry.now) c.in_ok-append.ensures.did)
