-- `fit::turns_needed`: the invariant is that fewer than t turns are too few.
-- Assumes nothing.
use Rattle.layout.specs.Numbers.{sector_no}
use Rattle.live.proofs.Fitting.{Fitting}
use Rattle.live.proofs.fit.turns_needed.Given as goal

abbrev pub invariant-loop-t : goal.invariant-loop-t
invariant-loop-t l = Fitting l.need l.limit l.counted.image.geometry l.counted.image.bytes.now (sector_no l.counted.newest) l.t (sector_no l.s)
