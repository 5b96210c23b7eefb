-- `marks::Marks::none` meets its contract: no bit of 0 is set, by computation.
-- Assumes nothing.
use mathlib.Core.Path.{refl}
use Rattle.rules.specs.Notation.{concat}
use Rattle.mask.specs.Flags.{bits_of, padded}
use Rattle.mask.specs.Marks.{marks_of}
use Rattle.mask.proofs.marks.Marks.none.Goals as goal

pub returns : goal.returns
unfolding marks_of padded concat bits_of
returns c = refl
