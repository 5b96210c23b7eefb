-- `marks::Marks::has` meets its contract: bit n % 64 of word n / 64 tells.
-- Assumes nothing.
use mathlib.Core.Path.{◌≡◌, ap, ◌∙◌}
use Prim.Native.Nat.{ℕ, ◌+◌, ◌*◌, ◌/◌, ◌%◌, ◌^◌}
use native.Mathlib.Omega.{arith}
use lib.Bits.{and_mask}
use lib.Dec.{eqb}
use lib.ListN.{length, get_or}
use Rattle.mask.specs.Marks.{word_bits, marks_of}
use Rattle.mask.proofs.Marking.{bit-in-words}
use Rattle.mask.proofs.marks.Marks.has.Goals as goal

pub returns : goal.returns
unfolding marks_of
returns c = let n = c.args.n in
    let words = c.args.self.0 in
    let many : length words ≡ 64 = omega arith in
    let place : n / word_bits * word_bits + n % word_bits ≡ n = omega arith in
    ap (λ (x : ℕ). eqb x 1) (and_mask (get_or words (n / word_bits) 0 / 2 ^ (n % word_bits)) 1)
    ∙ bit-in-words word_bits words (n / word_bits) (n % word_bits) (omega arith) (omega arith)
    ∙ rw place
