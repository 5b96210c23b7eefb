-- `mount::mount`: each arm knows the status, and so the state of the image.
-- Assumes nothing.
use mathlib.Core.Path.{◌≡◌, refl}
use mathlib.Core.Bool.{Bool, true, false, false≢true}
use mathlib.Core.Option.{some}
use Prim.Native.Nat.{◌<◌}
use native.Mathlib.Omega.{arith}
use Rattle.std.specs.Prelude.{Option, Some, None, Ok}
use Rattle.rules.specs.Meaning.{not_reopened, mid_turn, Is, state_of}
use Rattle.rules.specs.Stores.{nothing, mount}
use Rattle.rules.proofs.Ring.Order.{next-lt}
use Rattle.rules.proofs.Ring.States.{state-is}
use Rattle.layout.specs.Numbers.{sector_no}
use Rattle.layout.specs.Geometry.{blocks_of, sectors_of}
use Rattle.image.specs.declared.Status.TheVariants as status
use Rattle.image.specs.declared.Status.{Status}
use Rattle.image.specs.Answer.{status_as}
use Rattle.budget.specs.declared.Writer.{Writer}
use Rattle.budget.specs.Budget.{held, shown, Did}
use Rattle.turn.specs.Turn.{mount_stores}
use Rattle.image.proofs.Sectors.{views-count}
use Rattle.image.proofs.Laws.{survey-some, survey-none}
use Rattle.budget.proofs.Laws.{did_none}
use Rattle.turn.proofs.mount.mount.Goals as goal
use Rattle.turn.proofs.mount.mount.Goals.{In-Some-MidTurn, In-Some-NotReopened}

-- the state by the status, and the sector that it names is one of the image
not-reopened : (c : In-Some-NotReopened) → state_of (shown c.args.writer.now) ≡ some (not_reopened (sector_no c.in-Some-NotReopened.w))
not-reopened c =
    survey-some c.args.writer.now.geometry c.args.writer.now.image.now {s = status.NotReopened c.in-Some-NotReopened.w} c.requires.surveyed (grind arith)

working-inside : (c : In-Some-NotReopened) → sector_no c.in-Some-NotReopened.w < sectors_of c.args.writer.now.geometry
unfolding Is
working-inside c =
    omega (arith, (state-is (shown c.args.writer.now) (not_reopened (sector_no c.in-Some-NotReopened.w)) (not-reopened c)).here, views-count c.args.writer.now.geometry c.args.writer.now.image.now)

mid-turn : (c : In-Some-MidTurn) → state_of (shown c.args.writer.now) ≡ some (mid_turn (sector_no c.in-Some-MidTurn.u))
mid-turn c = survey-some c.args.writer.now.geometry c.args.writer.now.image.now {s = status.MidTurn c.in-Some-MidTurn.u} c.requires.surveyed (grind arith)

pub next_sector-requires : goal.next_sector-requires
next_sector-requires c = working-inside (goal.at.next_sector-requires c).In-Some-NotReopened

pub reopen-requires : goal.reopen-requires
reopen-requires c =
    omega (arith, c.next_sector.ensures, next-lt (sectors_of c.args.writer.now.geometry) (sector_no c.in-Some-NotReopened.w) (working-inside (goal.at.reopen-requires c).In-Some-NotReopened))

pub mount_turn-requires : goal.mount_turn-requires
unfolding Is
mount_turn-requires c =
    omega (arith, (state-is (shown c.args.writer.now) (mid_turn (sector_no c.in-Some-MidTurn.u)) (mid-turn (goal.at.mount_turn-requires c).In-Some-MidTurn)).here, views-count c.args.writer.now.geometry c.args.writer.now.image.now)

-- is nothing due?
abbrev settled : Option Status → Bool
settled None = true
settled (Some (status.Rest w)) = true
settled (Some (status.NotReopened w)) = false
settled (Some (status.MidTurn u)) = false

nothing-due : (w : Writer) (s : Option Status) → s ≡ status_as (state_of (shown w)) → settled s ≡ true
    → Did w (mount_stores (blocks_of w.geometry) (sectors_of w.geometry) (state_of (shown w)) (held w)) w (Ok (tt {0}))
unfolding mount nothing
nothing-due w None told is = rw (survey-none w.geometry w.image.now told refl) (did_none _ _)
nothing-due w (Some (status.Rest s)) told is = rw (survey-some w.geometry w.image.now {s = status.Rest s} told refl) (did_none _ _)
nothing-due w (Some (status.NotReopened s)) told is = absurd (false≢true is)
nothing-due w (Some (status.MidTurn u)) told is = absurd (false≢true is)

pub returns-in-None : goal.returns-in-None
returns-in-None c = nothing-due c.args.writer.now c.args.status c.requires.surveyed (grind arith)

pub returns-in-None-2 : goal.returns-in-None-2
returns-in-None-2 c = nothing-due c.args.writer.now c.args.status c.requires.surveyed (grind arith)

pub returns-in-Some-NotReopened : goal.returns-in-Some-NotReopened
unfolding mount
returns-in-Some-NotReopened c =
    rw (not-reopened (goal.at.returns-in-Some-NotReopened c).In-Some-NotReopened) (rw c.next_sector.ensures at c.reopen.ensures)

pub returns-in-Some-MidTurn : goal.returns-in-Some-MidTurn
unfolding mount
returns-in-Some-MidTurn c = rw (mid-turn (goal.at.returns-in-Some-MidTurn c).In-Some-MidTurn) c.mount_turn.ensures
