-- `live::needs`: the invariant is that the sum and the needs from entry i on are the live needs.
-- Assumes nothing.
use mathlib.Core.Path.{◌≡◌}
use Prim.Native.Nat.{ℕ, ◌+◌}
use Rattle.rules.specs.Meaning.{live_in, needs_of}
use Rattle.layout.specs.Numbers.{sector_no}
use Rattle.mask.specs.Flags.{padded}
use Rattle.mask.specs.Marks.{max_marks, marks_of}
use Rattle.image.specs.Answer.{views}
use Rattle.live.specs.Live.{live_flags_in}
use Rattle.live.proofs.LiveNeeds.{needs_from}
use Rattle.live.proofs.needs.Given as goal

-- whichever sector is ignored, where the marks are those of the live values
abbrev pub invariant-loop-n : goal.invariant-loop-n
invariant-loop-n l = (u : ℕ) → marks_of l.live ≡ padded max_marks (live_flags_in u (sector_no l.s) (views l.counted.image))
    → l.sum + needs_from u (sector_no l.s) (views l.counted.image) l.n ≡ needs_of (live_in u (sector_no l.s) (views l.counted.image))
