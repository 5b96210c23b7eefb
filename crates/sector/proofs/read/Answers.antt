-- `sector::read`: by the place of data and entries there is a block left after every entry, so a block that is none ends the loop.
-- Assumes nothing.
use Rattle.std.specs.Prelude.{Some}
use mathlib.Core.Path.{◌≡◌, sym, ap, ◌∙◌}
use mathlib.Core.Bool.{and-false}
use mathlib.Core.List.{[]}
use Prim.Native.Nat.{ℕ, ◌+◌, ◌-◌, ◌<◌, ◌≤◌}
use native.Mathlib.Omega.{arith}
use lib.ListN.{get_or}
use Rattle.rules.specs.Look as rule
use Rattle.rules.specs.Look.{start, look}
use Rattle.layout.specs.Geometry.{blocks_of}
use Rattle.layout.specs.Image.{blocks_in}
use Rattle.entry.specs.Answer.{scan_of, verdict_as}
use Rattle.entry.proofs.Laws.{is-entry, no-entry}
use Rattle.sector.specs.declared.Entries.{Entries}
use Rattle.sector.proofs.Standing.{stand-start, stand-left, stand-next, stand-end, stand-noted, stand-done}
use Rattle.sector.proofs.read.Goals as goal
use Rattle.sector.proofs.read.Goals.{After-block, then-to_done+else-next, else-to_done, then-loop-count-test+in-Ok-2+else-count-first, else-loop-count-test}

one-more : (B count : ℕ) → 0 < B - 3 - count → count + 1 + 3 ≤ B
one-more B count left = omega arith

none-more : (B count : ℕ) → B ≤ count + 3 → 0 < B - 3 - count → ⊥
none-more B count last left = omega arith

-- what was said of the block that is read
looked : (c : After-block) → let before = scan_of c.loop-count.scan in
    let B = blocks_of c.args.sector.now.geometry in
    c.block.result ≡ verdict_as before (look B c.args.cycle before (get_or (blocks_in c.args.sector.now) (B - 3 - c.loop-count.count) []))
looked c = rw (c.block-block.ensures, c.new.ensures, c.blocks-first.ensures) at c.block.ensures

pub loop-count-init : goal.loop-count-init
unfolding start
loop-count-init c =
    let B : ℕ = blocks_of c.args.sector.now.geometry in
    let same : B - 3 - 0 ≡ B - 3 = omega arith in
    record {
      standing = rw (c.start-scan.ensures, same) (stand-start B c.args.cycle (blocks_in c.args.sector.now) c.args.sector.now.geometry.sound.blocks_from);
      left = omega (arith, c.args.sector.now.geometry.sound.blocks_from);
      undone = rw c.start-scan.ensures (and-false c.args.to_done);
    }

pub returns-in-Ok : goal.returns-in-Ok
returns-in-Ok c =
    let told = is-entry _ _ (sym (looked (goal.at.returns-in-Ok c).After-block) ∙ c.in-Ok.is) in
    let done = stand-done (stand-next c.loop-count.invariant.standing told.1) (ap (λ (x : rule.Scan). x.done) (sym told.2) ∙ c.if-next.true) in
    rw (c.if-to_done.true, sym done)

pub returns-in-Err : goal.returns-in-Err
returns-in-Err c =
    let B : ℕ = blocks_of c.args.sector.now.geometry in
    let s = c.loop-count.invariant.standing in
    let told = no-entry _ _ (sym (looked (goal.at.returns-in-Err c).After-block) ∙ c.in-Err.is) in
    let undone = rw (stand-noted s told.0) at c.loop-count.invariant.undone in
    let count : B - 3 - (B - 3 - c.loop-count.count) ≡ c.loop-count.count = omega (arith, c.loop-count.invariant.left) in
    let all = stand-end {B = B} {cycle = c.args.cycle} {sector = blocks_in c.args.sector.now} {scan = scan_of c.loop-count.scan} {p = B - 3 - c.loop-count.count} s told.0 in
    rw (undone, told.1) (ap (λ (e : Entries). Some e) (rw count at all))

pub loop-count-preserved : goal.loop-count-preserved
loop-count-preserved c =
    let B : ℕ = blocks_of c.args.sector.now.geometry in
    let at : ℕ = B - 3 - c.loop-count.count in
    let down : at - 1 ≡ B - 3 - (c.loop-count.count + 1) = omega arith in
    let s = c.loop-count.invariant.standing in
    let told = is-entry _ _ (sym (looked (goal.at.loop-count-preserved c).After-block) ∙ c.in-Ok.is) in
    record {
      standing = rw (told.2, sym down) (stand-next s told.1);
      left = one-more B c.loop-count.count (stand-left s told.1);
      undone = elim c.if-to_done.branch [
        | then-to_done+else-next w ↦ rw w.if-next.false (and-false c.args.to_done)
        | else-to_done w ↦ rw w.if-to_done.false
      ];
    }

pub unreachable-requires : goal.unreachable-requires
unreachable-requires c =
    let B : ℕ = blocks_of c.args.sector.now.geometry in
    elim c.loop-count-test.branch [
      | then-loop-count-test+in-Ok-2+else-count-first w ↦
          let last : B ≤ c.loop-count.count + 3 = omega (arith, c.blocks-first.ensures) in
          let told = is-entry _ _ (sym (rw (w.block-block.ensures, w.new.ensures, c.blocks-first.ensures) at w.block.ensures) ∙ w.in-Ok.is) in
          none-more B c.loop-count.count last (stand-left c.loop-count.invariant.standing told.1)
      | else-loop-count-test w ↦ omega (arith, w.loop-count-test.false, c.loop-count.invariant.left, c.blocks-first.ensures)
    ]
