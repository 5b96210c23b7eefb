-- `make_turning`: no room, or the turns and the entry.
-- Assumes nothing.
use mathlib.Core.Path.{◌≡◌, sym, ap, ap₂, ◌∙◌}
use Prim.Native.Nat.{ℕ, ◌<◌}
use native.Mathlib.Omega.{arith}
use Rattle.rules.specs.Look.{need_of}
use Rattle.rules.specs.Stores.{least_turns}
use Rattle.layout.specs.Numbers.{sector_no}
use Rattle.layout.specs.Geometry.{blocks_of, sectors_of}
use Rattle.entry.specs.Answer.{scan_of, head_of, limit_of}
use Rattle.budget.specs.Budget.{shown}
use Rattle.layout.specs.Options.{option_as}
use Rattle.live.proofs.FitLaws.{no-room-due, after-due, turns-below}
use Rattle.append.specs.Append.{entry_of}
use Rattle.append.proofs.Appending.{entry-head}
use Rattle.answer.proofs.Leaving.{left-within, leaves-made, exit-none, leaves-exit, own-size}
use Rattle.change.proofs.Room.{beyond-limit, limit-few, active-needs}
use Rattle.change.proofs.make_turning.Goals as goal
use Rattle.change.proofs.make_turning.Goals.{After-turns_needed-least}

-- what the search for room told
fitting : (c : After-turns_needed-least) → option_as (least_turns (need_of (entry_of c.args.entry.now).head) (limit_of (blocks_of c.args.writer.now.geometry) (head_of c.args.entry.now.head)) (sector_no c.args.active.sector) (shown c.args.writer.now)) ≡ c.turns_needed-least.result
fitting c =
    ap₂ (λ (n l : ℕ). option_as (least_turns n l (sector_no c.args.active.sector) (shown c.args.writer.now)))
    (ap need_of (entry-head c.args.entry.now) ∙ sym c.need.ensures) (sym c.limit.ensures)
    ∙ sym (rw (c.image-2.ensures.geometry, c.image-2.ensures.bytes) at c.turns_needed-least.ensures)

pub turns_needed-least-requires-clause-need_bound : goal.turns_needed-least-requires-clause-need_bound
turns_needed-least-requires-clause-need_bound c =
    omega (arith, c.need.ensures, c.requires.changes.fits, limit-few (blocks_of c.args.writer.now.geometry) (head_of c.args.entry.now.head), c.args.writer.now.geometry.sound.blocks_to)

pub turns_needed-least-requires-clause-limit_bound : goal.turns_needed-least-requires-clause-limit_bound
turns_needed-least-requires-clause-limit_bound c =
    let full = beyond-limit (blocks_of c.args.writer.now.geometry) (scan_of c.args.active.scan) (head_of c.args.entry.now.head) c.requires.changes.plain c.requires.full in
    rw (c.image-2.ensures.geometry, c.image-2.ensures.bytes)
    (omega (arith, c.need.ensures, c.limit.ensures, full, active-needs c.args.writer.now.geometry c.args.writer.now.image.now c.requires.opened.carried))

pub returns-in_err-turn_count-clause-leaves : goal.returns-in_err-turn_count-clause-leaves
returns-in_err-turn_count-clause-leaves c =
    let least = c.in_err-turn_count.ensures.ok_part in
    let none = no-room-due c.args.writer.now.geometry c.args.writer.now.image.now (sector_no c.args.active.sector) (limit_of (blocks_of c.args.writer.now.geometry) (head_of c.args.entry.now.head)) (entry_of c.args.entry.now)
    (fitting (goal.at.returns-in_err-turn_count-clause-leaves c).After-turns_needed-least ∙ least) in
    leaves-exit _ c.args.allowance c.args.writer.now.image.now (exit-none c.from_residual.result least c.in_err-turn_count.ensures.value c.from_residual.ensures.1) none

pub overflow_cast-turn_count : goal.overflow_cast-turn_count
overflow_cast-turn_count c =
    let below : c.in_ok-turn_count.turn_count < sectors_of c.args.writer.now.geometry =
    turns-below c.args.writer.now.geometry c.args.writer.now.image.now _ _ (sector_no c.args.active.sector)
    (fitting (goal.at.overflow_cast-turn_count c).After-turns_needed-least ∙ c.in_ok-turn_count.ensures.ok_part) c.requires.opened.carried.inside in
    omega (arith, below, c.args.writer.now.geometry.sound.sectors_to)

pub ended-requires : goal.ended-requires
ended-requires c = left-within c.requires.begun c.turn_and_append-made.ensures

pub returns-clause-leaves : goal.returns-clause-leaves
returns-clause-leaves c =
    let made = after-due c.args.writer.now.geometry c.args.writer.now.image.now (sector_no c.args.active.sector) (limit_of (blocks_of c.args.writer.now.geometry) (head_of c.args.entry.now.head)) (entry_of c.args.entry.now)
    (fitting (goal.at.returns-clause-leaves c).After-turns_needed-least ∙ c.in_ok-turn_count.ensures.ok_part) in
    rw c.ended.ensures (leaves-made c.requires.begun c.turn_and_append-made.ensures _ c.in_ok-turn_count.turn_count (own-size c.args.writer.now.geometry) made)
