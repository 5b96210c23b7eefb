-- `mask::Mask::is_empty` meets its contract: the word is 0 exactly where no bit is set.
-- Assumes nothing.
use native.Mathlib.Omega.{arith}
use Rattle.rules.specs.Ground.{max_sectors}
use Rattle.mask.specs.Flags.{flags_of, sectors_in}
use Rattle.mask.proofs.Word.{zero-empty}
use Rattle.mask.proofs.Mask.is_empty.Goals as goal

pub returns : goal.returns
unfolding flags_of sectors_in
returns c = zero-empty max_sectors c.args.self.0 (omega arith)
