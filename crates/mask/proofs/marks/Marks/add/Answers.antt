-- `marks::Marks::add` meets its contract: bit n % 64 of word n / 64 is set.
-- Assumes nothing.
use mathlib.Core.Path.{◌≡◌, ap, ◌∙◌}
use mathlib.Core.List.{map}
use Prim.Native.Nat.{ℕ, ◌+◌, ◌*◌, ◌/◌, ◌%◌, ◌^◌}
use native.Mathlib.Omega.{arith}
use lib.Bits.{bit_or}
use lib.ListN.{length, get_or, set}
use lib.Pow.{shl_exact}
use Rattle.rules.specs.Notation.{concat}
use Rattle.mask.specs.Flags.{bits_of}
use Rattle.mask.specs.Marks.{word_bits, marks_of}
use Rattle.mask.proofs.Marking.{set-in-words}
use Rattle.mask.proofs.marks.Marks.add.Goals as goal

pub returns : goal.returns
unfolding marks_of
returns c = let n = c.args.n in
    let words = c.args.self.0 in
    let bit : 1 * 2 ^ (n % word_bits) % 2 ^ word_bits ≡ 2 ^ (n % word_bits) = shl_exact {a = 1} 1 (n % word_bits) word_bits (omega arith) (omega arith) ∙ omega arith in
    let many : length words ≡ 64 = omega arith in
    let place : n / word_bits * word_bits + n % word_bits ≡ n = omega arith in
    ap (λ (b : ℕ). concat (map (bits_of word_bits) (set words (n / word_bits) (bit_or (get_or words (n / word_bits) 0) b)))) bit
    ∙ set-in-words word_bits words (n / word_bits) (n % word_bits) (omega arith) (omega arith)
    ∙ rw place
