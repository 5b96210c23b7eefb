-- `turns`. The loop's invariant: whatever finishes the turns still due finishes them all (`Moving`).
-- Assumes nothing.
use Prim.Native.Nat.{◌-◌}
use Rattle.layout.specs.Numbers.{sector_no}
use Rattle.change.proofs.Moving.{Turning}
use Rattle.change.proofs.turns.Given as goal

abbrev pub invariant-loop-turn : goal.invariant-loop-turn
invariant-loop-turn l = Turning (sector_no l.fn.active.sector) l.turn_count l.initial.writer l.writer l.working l.noted (l.turn_count - l._turn)
