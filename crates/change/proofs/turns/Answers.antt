-- `turns`: one turn after another (`Moving`).
-- Assumes nothing.
use mathlib.Core.Path.{subst}
use Prim.Native.Nat.{suc, ◌-◌, ◌+◌}
use native.Mathlib.Omega.{arith}
use Rattle.rules.specs.Stores.{moved}
use Rattle.layout.specs.Numbers.{sector_no}
use Rattle.image.proofs.Laws.{rest-inside}
use Rattle.change.proofs.Moving.{rests-spare, Turning, turning-end, turning-cut, turning-more, turned-inside, turned-few}
use Rattle.change.proofs.turns.Goals as goal
use Rattle.change.proofs.turns.Goals.{In-loop-turn}

-- in a turn at least one is due
begun : (c : In-loop-turn) → let l = c.loop-turn in
    Turning (sector_no c.args.active.sector) c.args.turn_count c.args.writer.now l.writer l.working l.noted (suc (c.args.turn_count - (l._turn + 1)))
begun c =
    let l = c.loop-turn in
    subst (Turning (sector_no c.args.active.sector) c.args.turn_count c.args.writer.now l.writer l.working l.noted)
    (omega (arith, c.loop-turn-test.true)) l.invariant

pub turn-requires : goal.turn-requires
turn-requires c =
    let l = c.loop-turn in
    let i = l.invariant in
    let w = sector_no l.working.sector in
    record { counts = i.counted; w_bound = rest-inside l.writer.geometry l.writer.image.now w i.rests.rest; spare_empty = rests-spare l.writer w i.rests.rest }

pub returns-in_err-working-clause-did : goal.returns-in_err-working-clause-did
returns-in_err-working-clause-did c =
    turning-cut c.args.turn_count c.args.writer.now (begun (goal.at.returns-in_err-working-clause-did c).In-loop-turn) c.in_err-working.ensures c.from_residual.ensures.0

pub turned-noted-requires : goal.turned-noted-requires
turned-noted-requires c =
    let t = begun (goal.at.turned-noted-requires c).In-loop-turn in
    record {
      sector_bound = turned-inside c.args.turn_count c.args.writer.now t c.in_ok-working.ensures;
      entries_bound = turned-few c.args.turn_count c.args.writer.now t c.in_ok-working.ensures;
    }

pub loop-turn-preserved : goal.loop-turn-preserved
loop-turn-preserved c =
    turning-more c.args.turn_count c.args.writer.now (begun (goal.at.loop-turn-preserved c).In-loop-turn) c.in_ok-working.ensures c.turned-noted.ensures

pub returns : goal.returns
unfolding moved
returns c =
    let l = c.loop-turn in
    let ended = subst (Turning (sector_no c.args.active.sector) c.args.turn_count c.args.writer.now l.writer l.working l.noted) (omega (arith, c.loop-turn-test.false)) l.invariant in
    record { did = turning-end c.args.turn_count c.args.writer.now ended; rests = ended.rests; working = ended.onward }
