-- The entry of a value gives its bytes back, with the right CRC-32.
use mathlib.Core.Path.{◌≡◌, refl, sym, ap, ◌∙◌}
use mathlib.Core.Bool.{true, false}
use mathlib.Core.List.{List, ◌++◌}
use Prim.Native.Nat.{ℕ, zero, suc, ◌*◌, ◌-◌, ◌<◌, ◌≤◌}
use native.Mathlib.Nat.{zero-mul, suc-mul, add_comm}
use native.Mathlib.Omega.{arith}
use lib.Dec.{ltb}
use lib.ListN.{length, get_or, take, drop, length-append}
use lib.Seq.{take_at, take_all, take-add}
use borrow.Author.Tests.{eq-eqb, lt-leb, lt-ltb, le-ltb, ltb-true, ltb-false}
use Rattle.rules.specs.Notation.{pieces, concat, bytes_of, number_of, erased, Each, empty, each}
use Rattle.rules.specs.Ground.{block_size}
use Rattle.rules.specs.Checksum.{crc32}
use Rattle.rules.specs.Look.{data_blocks}
use Rattle.rules.specs.Reading.{Entry, is_long}
use Rattle.rules.specs.Meaning.{length_in, value_of, is_sound}
use Rattle.rules.specs.Stores.{value_entry}
use Rattle.rules.proofs.Basics.Notation.{number-bytes, length-erased, by-test}
use Rattle.rules.proofs.Format.Checksum.{crc32-below}

-- pieces put together again
pub concat-pieces : (n k : ℕ) (xs : List ℕ) → concat (pieces n k xs) ≡ take (n * k) xs
unfolding concat pieces
concat-pieces zero k xs = simp zero-mul
concat-pieces (suc n) k xs =
    ap (λ (l : List ℕ). take k xs ++ l) (concat-pieces n k (drop k xs)) ∙ sym (take-add k (n * k) xs)
    ∙ ap (λ (m : ℕ). take m xs) (add_comm k (n * k) ∙ sym (suc-mul n k))

byte_at : {bytes : List ℕ} → Each (λ b. b < 256) bytes → (i : ℕ) → get_or bytes i 0 < 256
byte_at empty i = omega arith
byte_at (each p ps) zero = p
byte_at (each p ps) (suc i) = byte_at ps i

-- the data blocks hold all bytes of a long value
pub roomy : (len : ℕ) → 8 < len → len ≤ data_blocks len * block_size
unfolding data_blocks
roomy len many = simp (lt-leb len 8 many) (omega arith)

-- a CRC-32 is right where there is none to be wrong, or it is the value's
sound-short : (e : Entry) → is_long e.head ≡ false → is_sound e ≡ true
unfolding is_sound
sound-short e short = simp short

sound-long : (e : Entry) → is_long e.head ≡ true → number_of e.inline ≡ crc32 (value_of e) → is_sound e ≡ true
unfolding is_sound
sound-long e long same = simp long (eq-eqb _ _ same)

module _ (id : ℕ) (bytes : List ℕ) where
  -- what a short and a long value keep, before so many bytes are taken
  kept-short : length bytes ≤ 8 → value_of (value_entry id bytes) ≡ bytes
  unfolding value_of value_entry is_long length_in
  kept-short few = simp (le-ltb 8 (length bytes) few) (take_at bytes (erased (8 - length bytes)) (length bytes) refl)

  kept-long : 8 < length bytes → value_of (value_entry id bytes) ≡ bytes
  unfolding value_of value_entry is_long length_in
  kept-long many =
      let n : ℕ = data_blocks (length bytes) in
      let pad : List ℕ = erased (n * block_size - length bytes) in
      let whole : length (bytes ++ pad) ≤ n * block_size = omega (arith, length-append bytes pad, length-erased (n * block_size - length bytes), roomy (length bytes) many) in
      simp (lt-ltb 8 (length bytes) many)
      (ap (take (length bytes)) (concat-pieces n block_size (bytes ++ pad) ∙ take_all (n * block_size) (bytes ++ pad) whole) ∙ take_at bytes pad (length bytes) refl)

  head-long : is_long (value_entry id bytes).head ≡ ltb 8 (length bytes)
  unfolding is_long value_entry
  head-long = refl

  rest-long : ltb 8 (length bytes) ≡ true → (value_entry id bytes).inline ≡ bytes_of 4 (crc32 bytes)
  unfolding value_entry
  rest-long e = simp e

  pub entry_value : value_of (value_entry id bytes) ≡ bytes
  entry_value = by-test (ltb 8 (length bytes)) (λ e. kept-long (ltb-true _ _ e)) (λ e. kept-short (ltb-false _ _ e))

  pub entry-sound : Each (λ b. b < 256) bytes → is_sound (value_entry id bytes) ≡ true
  entry-sound ok = by-test (ltb 8 (length bytes)) (λ e. sound-long (value_entry id bytes) (long e) (rest e)) (λ e. sound-short (value_entry id bytes) (short e))
    where
      long : ltb 8 (length bytes) ≡ true → is_long (value_entry id bytes).head ≡ true
      long e = head-long ∙ e

      short : ltb 8 (length bytes) ≡ false → is_long (value_entry id bytes).head ≡ false
      short e = head-long ∙ e

      rest : ltb 8 (length bytes) ≡ true → number_of (value_entry id bytes).inline ≡ crc32 (value_of (value_entry id bytes))
      rest e = ap number_of (rest-long e) ∙ number-bytes 4 (crc32 bytes) (crc32-below bytes (byte_at ok)) ∙ ap crc32 (sym entry_value)
