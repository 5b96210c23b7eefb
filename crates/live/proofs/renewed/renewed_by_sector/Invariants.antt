-- `renewed::renewed_by_sector`: the invariant is that the marks count the first n entries of sector t among the later ones.
-- Assumes nothing.
use mathlib.Core.Path.{◌≡◌}
use mathlib.Core.List.{List, ◌++◌}
use lib.ListN.{take}
use Rattle.rules.specs.Reading.{Entry}
use Rattle.mask.specs.Flags.{padded}
use Rattle.mask.specs.Marks.{max_marks, marks_of}
use Rattle.index.specs.Index.{entries_of}
use Rattle.live.specs.Live.{renewed_flags}
use Rattle.index.specs.Tables.{entries_at}
use Rattle.live.proofs.renewed.renewed_by_sector.Given as goal

-- whichever entries were counted before
abbrev pub invariant-loop-n : goal.invariant-loop-n
invariant-loop-n g l = (later : List Entry) → marks_of l.initial.renewed ≡ padded max_marks (renewed_flags (entries_of l.index) later)
    → marks_of l.renewed ≡ padded max_marks (renewed_flags (entries_of l.index) (later ++ take l.n (entries_at l.index.image l.t)))
