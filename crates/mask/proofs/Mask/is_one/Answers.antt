-- `mask::Mask::is_one` meets its contract: the ones are as many as the sectors in the mask.
-- Assumes nothing.
use native.Mathlib.Omega.{arith}
use Rattle.rules.specs.Ground.{max_sectors}
use Rattle.mask.specs.Flags.{flags_of, sectors_in}
use Rattle.mask.proofs.Word.{one_single}
use Rattle.mask.proofs.Mask.is_one.Goals as goal

pub returns : goal.returns
unfolding flags_of sectors_in
returns c = one_single max_sectors c.args.self.0 (omega arith)
