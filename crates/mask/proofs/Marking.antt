-- The bits of words, one word after another: what setting a bit does to them, and what a bit tells.
-- Assumes nothing.
use mathlib.Core.Path.{◌≡◌, refl, sym, ap, ◌∙◌}
use mathlib.Core.Bool.{Bool, true, false}
use mathlib.Core.List.{List, [], ◌∷◌, ◌++◌, map}
use Prim.Native.Nat.{ℕ, zero, suc, ◌+◌, ◌*◌, ◌/◌, ◌%◌, ◌^◌, ◌<◌}
use native.Mathlib.Nat.{le_of_suc-le-suc, suc-mul, zero-mul}
use native.Mathlib.Omega.{arith}
use lib.Bits.{bit_or}
use lib.Dec.{eqb}
use lib.ListN.{length, get_or, set, get_or-append}
use lib.Pow.{shr-shr}
use lib.Seq.{set-append_left, get_or-append-add}
use Rattle.rules.specs.Notation.{concat}
use Rattle.mask.specs.Flags.{bits_of}
use Rattle.mask.proofs.Word.{set-bit}

-- ---- one word

pub length-bits : (k n : ℕ) → length (bits_of k n) ≡ k
unfolding bits_of
length-bits zero n = refl
length-bits (suc k) n = ap suc (length-bits k (n / 2))

bit_at : (k n i : ℕ) → i < k → get_or (bits_of k n) i false ≡ eqb (n / 2 ^ i % 2) 1
unfolding bits_of
bit_at zero n i h = absurd (omega arith)
bit_at (suc k) n zero h = let whole : n / 2 ^ 0 ≡ n = omega arith in ap (λ (x : ℕ). eqb (x % 2) 1) (sym whole)
bit_at (suc k) n (suc i) h =
    let above : 1 + i ≡ suc i = omega arith in
    bit_at k (n / 2) i (le_of_suc-le-suc h) ∙ ap (λ (x : ℕ). eqb (x % 2) 1) (shr-shr n 1 i ∙ ap (λ (j : ℕ). n / 2 ^ j) above)

-- ---- word after word

set-append-add {ℓ} : {A : Type ℓ} (xs ys : List A) (n : ℕ) (a : A) → set (xs ++ ys) (length xs + n) a ≡ xs ++ set ys n a
set-append-add [] ys n a = ap (λ (i : ℕ). set ys i a) (omega arith)
set-append-add {A = A} (x ∷ xs) ys n a =
    let place : suc (length xs) + n ≡ suc (length xs + n) = omega arith in
    rw place (ap (λ (l : List A). x ∷ l) (set-append-add xs ys n a))

module _ (k : ℕ) where
  -- the bits of each word, lowest first
  abbrev flags_in : List ℕ → List Bool
  flags_in words = concat (map (bits_of k) words)

  -- the place of bit i in the word after one more
  further : (w q i : ℕ) → suc q * k + i ≡ length (bits_of k w) + (q * k + i)
  further w q i = omega (arith, length-bits k w, suc-mul q k)

  pub set-in-words : (words : List ℕ) (q i : ℕ) → q < length words → i < k
      → flags_in (set words q (bit_or (get_or words q 0) (2 ^ i))) ≡ set (flags_in words) (q * k + i) true
  unfolding concat
  set-in-words [] q i h low = absurd (omega arith)
  set-in-words (w ∷ ws) zero i h low =
      let here : 0 * k + i ≡ i = omega (arith, zero-mul k) in
      rw here
      (ap (λ (l : List Bool). l ++ flags_in ws) (set-bit k i w)
      ∙ sym (set-append_left (bits_of k w) (flags_in ws) i true (omega (arith, length-bits k w))))
  set-in-words (w ∷ ws) (suc q) i h low =
      rw (further w q i)
      (ap (λ (l : List Bool). bits_of k w ++ l) (set-in-words ws q i (le_of_suc-le-suc h) low)
      ∙ sym (set-append-add (bits_of k w) (flags_in ws) (q * k + i) true))

  pub bit-in-words : (words : List ℕ) (q i : ℕ) → q < length words → i < k
      → eqb (get_or words q 0 / 2 ^ i % 2) 1 ≡ get_or (flags_in words) (q * k + i) false
  unfolding concat
  bit-in-words [] q i h low = absurd (omega arith)
  bit-in-words (w ∷ ws) zero i h low =
      let here : 0 * k + i ≡ i = omega (arith, zero-mul k) in
      rw here
      (sym (bit_at k w i low) ∙ sym (get_or-append (bits_of k w) (flags_in ws) false i (omega (arith, length-bits k w))))
  bit-in-words (w ∷ ws) (suc q) i h low =
      rw (further w q i)
      (bit-in-words ws q i (le_of_suc-le-suc h) low ∙ sym (get_or-append-add (bits_of k w) (flags_in ws) (q * k + i) false))
