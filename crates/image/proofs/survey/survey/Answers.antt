-- `survey::survey`. The loop's invariant: the sectors below n are surveyed.
-- Assumes nothing.
use mathlib.Core.Path.{◌≡◌, sym, ap, ◌∙◌}
use Prim.Native.Nat.{◌≤◌, ◌<◌}
use native.Mathlib.Omega.{arith}
use lib.ListN.{length}
use Rattle.rules.specs.Ground.{max_sectors}
use Rattle.rules.specs.Meaning.{view_at}
use Rattle.layout.specs.Numbers.{sector_no}
use Rattle.layout.specs.Geometry.{sectors_of}
use Rattle.sector.specs.Answer.{class_as}
use Rattle.image.specs.Answer.{status_as, views}
use Rattle.image.proofs.Sectors.{views-count, view-shown, told_none}
use Rattle.image.proofs.Surveyed.{surveyed-more, surveyed-one, surveyed-state, no_store_lem}
use Rattle.image.proofs.survey.survey.Goals as goal
use Rattle.image.proofs.survey.survey.Goals.{After-class_of, In-loop-n, Start}

few : (k : Start) → length (views k.args.image.now) ≤ max_sectors
few k = omega (arith, views-count k.args.image.now.geometry k.args.image.now.bytes.now, k.args.image.now.geometry.sound.sectors_to)

-- in a turn n is a sector
inside : (c : In-loop-n) → c.loop-n.n < sectors_of c.args.image.now.geometry
inside c = omega (arith, c.loop-n-test.true, c.sectors-n-end.ensures)

-- and its class is told
class-is : (c : After-class_of) → c.loop-n.n < sectors_of c.args.image.now.geometry → c.class_of.result ≡ class_as (view_at (views c.args.image.now) c.loop-n.n)
class-is c inside =
    let number = ap sector_no c.new-s.ensures in
    c.class_of.ensures ∙ ap class_as (sym (view-shown c.args.image.now.geometry c.args.image.now.bytes.now c.loop-n.n inside c.sector.result c.sector.ensures.geometry (rw number at c.sector.ensures.blocks)))

pub returns-in_err-class : goal.returns-in_err-class
returns-in_err-class c =
    let t = goal.at.returns-in_err-class c in
    let wrong = told_none _ (sym (class-is t.After-class_of (inside t.In-loop-n)) ∙ c.in_err-class.was) in
    c.from_residual.ensures ∙ ap status_as (sym (no_store_lem _ _ (omega (arith, inside t.In-loop-n, views-count c.args.image.now.geometry c.args.image.now.bytes.now)) wrong))

pub loop-n-preserved : goal.loop-n-preserved
loop-n-preserved c =
    let t = goal.at.loop-n-preserved c in
    let number = ap sector_no c.new-s.ensures in
    surveyed-more _ (few t.Start) c.loop-n.invariant (omega (arith, inside t.In-loop-n, views-count c.args.image.now.geometry c.args.image.now.bytes.now))
    (sym (class-is t.After-class_of (inside t.In-loop-n)) ∙ c.in_ok-class.was)
    (rw number at c.with-classes.ensures.working) (rw number at c.with-classes.ensures.unfinished)

pub decide-requires : goal.decide-requires
decide-requires c =
    let count = views-count c.args.image.now.geometry c.args.image.now.bytes.now in
    record { working_inside = λ w e. omega (arith, surveyed-one _ c.loop-n.invariant (omega (arith, c.loop-n-test.false, c.sectors-n-end.ensures)) w e, count) }

pub returns : goal.returns
returns c =
    let all : length (views c.args.image.now) ≤ c.loop-n.n = omega (arith, c.loop-n-test.false, c.sectors-n-end.ensures, views-count c.args.image.now.geometry c.args.image.now.bytes.now) in
    c.decide.ensures ∙ ap status_as (surveyed-state _ c.loop-n.invariant all)
