-- `read_full`: what was read lies within the image, and each read that goes on brings more.
use Rattle.std.proofs.Common.{length, ◌-◌, ◌≤◌}
use Rattle.drive.proofs.read_full.Given as goal

abbrev pub invariant-loop-done : goal.invariant-loop-done
invariant-loop-done g l = l.done ≤ length l.image

abbrev pub decreases-loop-done : goal.decreases-loop-done
decreases-loop-done g l = length l.initial.image - l.done
