-- `search::newest_entry`: the invariant is the search under way, over the sectors that are left.
-- Assumes nothing.
use mathlib.Core.Path.{◌≡◌, sym, ap, ◌∙◌}
use Prim.Native.Nat.{◌+◌, ◌-◌, ◌<◌}
use native.Mathlib.Omega.{arith}
use Rattle.rules.proofs.Ring.Order.{next-lt}
use Rattle.layout.specs.Geometry.{sectors_of}
use Rattle.search.specs.Search.{newest_as}
use Rattle.search.proofs.Seeking.{seeking-start, seeking-found, seeking-next, seeking-end}
use Rattle.search.proofs.newest_entry.Goals as goal
use Rattle.search.proofs.newest_entry.Goals.{In-loop-passed}

pub loop-passed-init : goal.loop-passed-init
loop-passed-init c = seeking-start _ _ _ _ c.requires.w_bound c.args.image.now.geometry.sound.sectors_from

-- in a turn a sector is left
left : (c : In-loop-passed) → 0 < sectors_of c.args.image.now.geometry - c.loop-passed._passed
left c = omega (arith, c.loop-passed-test.true, c.sectors-passed-end.ensures)

pub returns-in-Some : goal.returns-in-Some
returns-in-Some c =
    ap newest_as (sym (seeking-found c.loop-passed.invariant (left (goal.at.returns-in-Some c).In-loop-passed) (sym c.newest_at.ensures ∙ c.in-Some.is)))

pub loop-passed-preserved : goal.loop-passed-preserved
loop-passed-preserved c =
    let fewer : sectors_of c.args.image.now.geometry - c.loop-passed._passed - 1 ≡ sectors_of c.args.image.now.geometry - (c.loop-passed._passed + 1) = omega arith in
    rw fewer at
    (seeking-next c.loop-passed.invariant (next-lt _ _ c.requires.w_bound) (left (goal.at.loop-passed-preserved c).In-loop-passed)
    (sym c.newest_at.ensures ∙ c.in_default.is) c.previous_sector-s.ensures)

pub returns : goal.returns
returns c =
    let none_left : sectors_of c.args.image.now.geometry - c.loop-passed._passed ≡ 0 = omega (arith, c.loop-passed-test.false, c.sectors-passed-end.ensures) in
    ap newest_as (sym (seeking-end c.loop-passed.invariant none_left))
