-- `renewed::renewed_by_newer`: the invariant is that the marks count the entries of the newer sectors before t among the later ones.
-- Assumes nothing.
use mathlib.Core.Path.{◌≡◌}
use mathlib.Core.List.{List}
use Rattle.rules.specs.Reading.{Entry}
use Rattle.layout.specs.Geometry.{sectors_of}
use Rattle.layout.specs.Numbers.{sector_no}
use Rattle.mask.specs.Flags.{padded}
use Rattle.mask.specs.Marks.{max_marks, marks_of}
use Rattle.image.specs.Answer.{views}
use Rattle.index.specs.Index.{entries_of}
use Rattle.live.specs.Live.{renewed_flags}
use Rattle.live.proofs.Passing.{sectors_left, Passing}
use Rattle.live.proofs.renewed.renewed_by_newer.Given as goal

abbrev pub invariant-loop-g : goal.invariant-loop-g
invariant-loop-g g l = (passed : List Entry)
    × Passing (sector_no l.spare) (sector_no l.index.sector) (sector_no l.t) (views l.index.image) passed
    × (marks_of l.renewed ≡ padded max_marks (renewed_flags (entries_of l.index) passed))

abbrev pub decreases-loop-g : goal.decreases-loop-g
decreases-loop-g g l = sectors_left (sectors_of l.index.image.geometry) (sector_no l.spare) (sector_no l.t)
