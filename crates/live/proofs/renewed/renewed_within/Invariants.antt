-- `renewed::renewed_within`: the invariant is that the first n entries are indexed, and those of them marked that a later one of them renews.
-- Assumes nothing.
use mathlib.Core.Path.{◌≡◌}
use mathlib.Core.List.{[]}
use lib.ListN.{take}
use Rattle.mask.specs.Flags.{padded}
use Rattle.mask.specs.Marks.{max_marks, marks_of}
use Rattle.index.specs.Index.{entries_of}
use Rattle.live.specs.Live.{renewed_flags}
use Rattle.live.proofs.renewed.renewed_within.Given as goal

abbrev pub invariant-loop-n : goal.invariant-loop-n
invariant-loop-n g l =
    (l.index.image ≡ l.initial.index.image)
    × (l.index.sector ≡ l.initial.index.sector)
    × (l.index.count ≡ l.n)
    × (marks_of l.renewed ≡ padded max_marks (renewed_flags (take l.n (entries_of l.initial.index)) []))
