-- `mask::Mask::add` meets its contract: the shift gives the word with bit s alone, and the `|` sets that bit.
-- Assumes nothing.
use mathlib.Core.Path.{◌≡◌, ap, ◌∙◌}
use Prim.Native.Nat.{ℕ, ◌*◌, ◌%◌, ◌^◌}
use native.Mathlib.Omega.{arith}
use lib.Bits.{bit_or}
use lib.Pow.{shl_exact}
use Rattle.rules.specs.Ground.{max_sectors}
use Rattle.layout.specs.Numbers.{sector_no}
use Rattle.mask.specs.Flags.{bits_of, flags_of}
use Rattle.mask.proofs.Word.{set-bit}
use Rattle.mask.proofs.Mask.add.Goals as goal

pub returns : goal.returns
unfolding flags_of
returns c = let n = c.args.self.0 in
    let s = sector_no c.args.s in
    let bit : 1 * 2 ^ s % 2 ^ max_sectors ≡ 2 ^ s = shl_exact {a = 1} 1 s max_sectors (omega arith) (omega arith) ∙ omega arith in
    ap (λ (k : ℕ). bits_of max_sectors (bit_or n (1 * 2 ^ k % 2 ^ max_sectors))) c.number.ensures
    ∙ ap (λ (b : ℕ). bits_of max_sectors (bit_or n b)) bit
    ∙ set-bit max_sectors s n
