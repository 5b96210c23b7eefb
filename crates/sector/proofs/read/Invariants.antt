-- `sector::read`. The loop's invariant: the reading stands at the block below the entries that were taken, and there was no done among
-- them if it goes only as far as to that.
use mathlib.Core.Path.{◌≡◌}
use mathlib.Core.Bool.{false, ◌&&◌}
use Prim.Native.Nat.{◌+◌, ◌-◌, ◌≤◌}
use Rattle.layout.specs.Geometry.{blocks_of}
use Rattle.layout.specs.Image.{blocks_in}
use Rattle.entry.specs.Answer.{scan_of}
use Rattle.sector.proofs.Standing.{Standing}
use Rattle.sector.proofs.read.Given as goal

abbrev pub invariant-loop-count : goal.invariant-loop-count
invariant-loop-count l = let B = blocks_of l.sector.geometry in record {
  standing : Standing B l.cycle (blocks_in l.sector) (scan_of l.scan) (B - 3 - l.count);
  left : l.count + 3 ≤ B;
  undone : (l.to_done && l.scan.done) ≡ false;
}
