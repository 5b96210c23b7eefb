-- `mask::Mask::none` meets its contract: no bit of 0 is set, by computation.
-- Assumes nothing.
use mathlib.Core.Path.{refl}
use native.Mathlib.Omega.{arith}
use Rattle.mask.specs.Flags.{bits_of, flags_of, padded}
use Rattle.mask.proofs.Mask.none.Goals as goal

pub returns : goal.returns
unfolding flags_of bits_of padded
returns c = record { few = omega arith; exact = refl }
