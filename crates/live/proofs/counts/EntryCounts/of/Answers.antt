-- `EntryCounts::of`. The loop's invariant: the sectors below s are counted.
-- Assumes nothing.
use native.Mathlib.Omega.{arith}
use Rattle.image.proofs.Sectors.{views-count}
use Rattle.live.proofs.Counting.{counting-end}
use Rattle.live.proofs.counts.EntryCounts.of.Goals as goal

pub returns : goal.returns
returns c =
    counting-end c.loop-s.invariant (omega (arith, c.loop-s-test.false, c.sectors-s-end.ensures, views-count c.args.image.now.geometry c.args.image.now.bytes.now))
