-- `copies::copy_live`. The loop's invariant: whatever finishes the copies from entry n on finishes them all (`Gathering`).
-- Assumes nothing.
use Rattle.rules.specs.Meaning.{next}
use Rattle.layout.specs.Numbers.{sector_no}
use Rattle.layout.specs.Geometry.{sectors_of}
use Rattle.turn.proofs.Gathering.{Copying}
use Rattle.turn.proofs.copies.copy_live.Given as goal

abbrev pub invariant-loop-n : goal.invariant-loop-n
invariant-loop-n l =
    let u = sector_no l.fn.active.sector in
    Copying (next (sectors_of l.initial.writer.geometry) u) u l.initial.writer l.writer l.filled l.n
