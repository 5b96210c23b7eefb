-- `EntryCounts::of`. The loop's invariant: the sectors below s are counted.
-- Assumes nothing.
use Rattle.image.specs.Answer.{views}
use Rattle.live.proofs.Counting.{Counting}
use Rattle.live.proofs.counts.EntryCounts.of.Given as goal

abbrev pub invariant-loop-s : goal.invariant-loop-s
invariant-loop-s l = Counting (views l.image) l.counts l.s
