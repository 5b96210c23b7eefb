-- `fit::turns_needed`: the invariant is that fewer than t turns are too few.
-- Assumes nothing.
use mathlib.Core.Path.{sym, ap}
use Prim.Native.Nat.{◌<◌}
use native.Mathlib.Omega.{arith}
use Rattle.layout.specs.Numbers.{sector_no}
use Rattle.layout.specs.Geometry.{sectors_of}
use Rattle.layout.specs.Options.{option_as}
use Rattle.live.proofs.Fitting.{fitting-start, looked-inside, looked-other, looked-few, fitting-found, fitting-next, fitting-end}
use Rattle.live.proofs.fit.turns_needed.Goals as goal
use Rattle.live.proofs.fit.turns_needed.Goals.{In-loop-t}

-- in the loop there is a turn more to try
more : (c : In-loop-t) → c.loop-t.t < sectors_of c.args.counted.now.image.geometry
more c = omega (arith, c.loop-t-test.true, c.sectors-t-end.ensures)

pub loop-t-init : goal.loop-t-init
loop-t-init c =
    fitting-start c.args.counted.now.image.geometry c.args.counted.now.image.bytes.now (sector_no c.args.counted.now.newest) c.args.counted.now.inside c.args.need c.args.limit c.requires.limit_bound c.next_sector-s.ensures

pub needs-requires : goal.needs-requires
needs-requires c =
    let inside = looked-inside c.args.counted.now.image.geometry c.args.counted.now.image.bytes.now (sector_no c.args.counted.now.newest) c.args.counted.now.inside c.loop-t.invariant (more (goal.at.needs-requires c).In-loop-t) c.next_sector-s-in-loop-t.ensures in
    let other = looked-other c.args.counted.now.image.geometry c.args.counted.now.image.bytes.now (sector_no c.args.counted.now.newest) c.args.counted.now.inside c.loop-t.invariant (more (goal.at.needs-requires c).In-loop-t) c.next_sector-s-in-loop-t.ensures in
    record { s_bound = inside; not_spare = other }

pub overflow_add-needs : goal.overflow_add-needs
overflow_add-needs c =
    let few = looked-few c.args.counted.now.image.geometry c.args.counted.now.image.bytes.now (sector_no c.args.counted.now.newest) c.args.counted.now.inside c.loop-t.invariant (more (goal.at.overflow_add-needs c).In-loop-t) c.next_sector-s-in-loop-t.ensures in
    omega (arith, c.needs.ensures, few, c.args.counted.now.image.geometry.sound.blocks_to, c.requires.need_bound)

pub returns-then-needs-need : goal.returns-then-needs-need
returns-then-needs-need c =
    ap option_as (sym (fitting-found c.args.counted.now.image.geometry c.args.counted.now.image.bytes.now (sector_no c.args.counted.now.newest) c.args.counted.now.inside c.loop-t.invariant (more (goal.at.returns-then-needs-need c).In-loop-t) c.next_sector-s-in-loop-t.ensures (omega (arith, c.needs.ensures, c.if-needs-need.true))))

pub loop-t-preserved : goal.loop-t-preserved
loop-t-preserved c =
    fitting-next c.args.counted.now.image.geometry c.args.counted.now.image.bytes.now (sector_no c.args.counted.now.newest) c.args.counted.now.inside c.loop-t.invariant (more (goal.at.loop-t-preserved c).In-loop-t) c.next_sector-s-in-loop-t.ensures (omega (arith, c.needs.ensures, c.if-needs-need.false))

pub returns : goal.returns
returns c =
    ap option_as (sym (fitting-end c.args.counted.now.image.geometry c.args.counted.now.image.bytes.now (sector_no c.args.counted.now.newest) c.args.counted.now.inside c.loop-t.invariant (omega (arith, c.loop-t-test.false, c.sectors-t-end.ensures))))
