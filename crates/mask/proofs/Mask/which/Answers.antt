-- `mask::Mask::which` meets its contract: the lowest sector in the mask stands above the trailing zeros, and it is the only one.
-- Assumes nothing.
use mathlib.Core.Path.{sym, ap, ◌∙◌}
use mathlib.Core.List.{[], ◌∷◌}
use Prim.Native.Nat.{ℕ}
use native.Mathlib.Omega.{arith}
use Rattle.rules.specs.Ground.{max_sectors}
use Rattle.layout.specs.Numbers.{sector_no}
use Rattle.mask.specs.Flags.{flags_of, sectors_in}
use Rattle.mask.proofs.Word.{single-place}
use Rattle.mask.proofs.Mask.which.Goals as goal

pub returns : goal.returns
unfolding flags_of sectors_in
returns c = single-place max_sectors c.args.self.0 (omega arith) c.requires
    ∙ ap (λ (n : ℕ). n ∷ []) (sym (ap sector_no c.new.ensures))
