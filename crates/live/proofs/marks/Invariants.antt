-- `live::marks`: the invariant is that the marks are the flags of the entries below n, whichever sector is ignored.
-- Assumes nothing.
use mathlib.Core.Path.{◌≡◌}
use Prim.Native.Nat.{ℕ}
use lib.ListN.{take}
use Rattle.layout.specs.Numbers.{sector_no}
use Rattle.mask.specs.Flags.{padded}
use Rattle.mask.specs.Marks.{max_marks, marks_of}
use Rattle.image.specs.Answer.{views}
use Rattle.live.specs.Live.{live_flags_in, renewed_flags_in}
use Rattle.live.proofs.marks.Given as goal

abbrev pub invariant-loop-n : goal.invariant-loop-n
invariant-loop-n l = (u : ℕ) → marks_of l.renewed ≡ padded max_marks (renewed_flags_in u (sector_no l.s) (views l.counted.image))
    → marks_of l.live ≡ padded max_marks (take l.n (live_flags_in u (sector_no l.s) (views l.counted.image)))
