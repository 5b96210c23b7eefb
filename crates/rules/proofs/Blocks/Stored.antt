-- The block that is stored for an entry is the one that the paper's list of kinds gives.
use mathlib.Core.Path.{◌≡◌, refl, sym, ap, ◌∙◌}
use mathlib.Core.Bool.{true, false≢true}
use mathlib.Core.List.{List, ◌∷◌, ◌++◌}
use Prim.Native.Nat.{ℕ, ◌+◌, ◌*◌, ◌-◌, ◌/◌, ◌%◌, ◌<◌, ◌≤◌}
use native.Mathlib.Omega.{arith}
use lib.ListN.{length, take, drop, length-drop, take-append-drop}
use lib.Seq.{length-take-le}
use borrow.Author.Tests.{lt-ltb, le-ltb}
use Rattle.rules.specs.Notation.{erased, is_erased, bytes_of, number_of, Each, empty, each}
use Rattle.rules.specs.Ground.{Block, block_size}
use Rattle.rules.specs.Checksum.{crc32}
use Rattle.rules.specs.Entry.{encode, numbers, close_block, done_block, deletion_block, small_value_block, long_value_block}
use Rattle.rules.specs.Look.{Head, done, deletion, value}
use Rattle.rules.specs.Reading.{Entry, is_long}
use Rattle.rules.specs.Meaning.{is_value, length_in}
use Rattle.rules.specs.Stores.{id_in, entry_block, done_entry, deletion_entry, value_entry}
use Rattle.rules.proofs.Terms.{HeadFits, fits-small, fits-long}
use Rattle.rules.proofs.Basics.Notation.{is-erased}

module _ (cycle data_end : ℕ) where
  pub stored-done : entry_block cycle data_end done_entry ≡ done_block cycle
  unfolding entry_block done_entry is_long length_in id_in done_block close_block
  stored-done = refl

  pub stored-deletion : (id : ℕ) → entry_block cycle data_end (deletion_entry id) ≡ deletion_block cycle id
  unfolding entry_block deletion_entry is_long length_in id_in deletion_block
  stored-deletion id = refl

  pub stored-small : (id : ℕ) (bytes : List ℕ) → length bytes ≤ 8 → entry_block cycle data_end (value_entry id bytes) ≡ small_value_block cycle id bytes
  unfolding entry_block value_entry is_long length_in id_in small_value_block
  stored-small id bytes few = simp (le-ltb 8 (length bytes) few)

  pub stored-long : (id : ℕ) (bytes : List ℕ) → 8 < length bytes
      → entry_block cycle data_end (value_entry id bytes) ≡ long_value_block cycle id (length bytes) (data_end * block_size) (crc32 bytes)
  unfolding entry_block value_entry is_long length_in id_in long_value_block numbers
  stored-long id bytes many = simp (lt-ltb 8 (length bytes) many)

-- the bytes of the number that bytes hold
pub bytes-number : {bytes : List ℕ} → Each (λ b. b < 256) bytes → bytes_of (length bytes) (number_of bytes) ≡ bytes
unfolding bytes_of number_of
bytes-number empty = refl
bytes-number (each {x = b} {xs = bs} small rest) =
    let low : (b + 256 * number_of bs) % 256 ≡ b = omega arith in
    let high : (b + 256 * number_of bs) / 256 ≡ number_of bs = omega arith in
    ap (λ (n : ℕ). n ∷ bytes_of (length bs) ((b + 256 * number_of bs) / 256)) low
    ∙ ap (λ (n : ℕ). b ∷ bytes_of (length bs) n) high
    ∙ ap (λ (l : List ℕ). b ∷ l) (bytes-number rest)

-- A value by its ID and length, and what the bytes behind them are.
pub value-head : (h : Head) → is_value h ≡ true → h ≡ value (id_in h) (length_in h)
unfolding is_value id_in length_in
value-head done is = absurd (false≢true is)
value-head (deletion id) is = absurd (false≢true is)
value-head (value id len) is = refl

pub small-fits : {id len : ℕ} {rest : List ℕ} → HeadFits (value id len) rest → len ≤ 8 → (length rest ≡ 8) × (is_erased (drop len rest) ≡ true)
small-fits (fits-small named user one few whole padded) short = (whole, padded)
small-fits (fits-long named user many short whole) few = absurd (omega arith)

pub long-fits : {id len : ℕ} {rest : List ℕ} → HeadFits (value id len) rest → 8 < len → length rest ≡ 4
long-fits (fits-small named user one few whole padded) many = absurd (omega arith)
long-fits (fits-long named user many short whole) long = whole

-- A copy: "with data blocks and CRC-32 as they lie".
module _ (cycle data_end id len : ℕ) (inline : List ℕ) (blocks : List Block) where
  abbrev copy : Entry
  copy = record { head = value id len; inline = inline; blocks = blocks }

  pub copied-small : len ≤ 8 → length inline ≡ 8 → is_erased (drop len inline) ≡ true → entry_block cycle data_end copy ≡ small_value_block cycle id (take len inline)
  unfolding entry_block is_long length_in id_in small_value_block
  copied-small few sized padded =
      let taken : length (take len inline) ≡ len = length-take-le len inline (omega arith) in
      let pad : drop len inline ≡ erased (8 - length (take len inline)) =
      is-erased (drop len inline) padded ∙ ap erased (length-drop len inline ∙ omega arith) in
      let whole : inline ≡ take len inline ++ erased (8 - length (take len inline)) =
      sym (take-append-drop len inline) ∙ ap (λ (l : List ℕ). take len inline ++ l) pad in
      simp (le-ltb 8 len few)
      (ap (λ (n : ℕ). encode cycle n id inline) (sym taken) ∙ ap (encode cycle (length (take len inline)) id) whole)

  pub copied-long : 8 < len → length inline ≡ 4 → Each (λ b. b < 256) inline → entry_block cycle data_end copy ≡ long_value_block cycle id len (data_end * block_size) (number_of inline)
  unfolding entry_block is_long length_in id_in long_value_block numbers
  copied-long many sized bytes =
      simp (lt-ltb 8 len many)
      (ap (λ (l : List ℕ). encode cycle len id (bytes_of 4 (data_end * block_size) ++ l)) (sym (ap (λ (k : ℕ). bytes_of k (number_of inline)) (sym sized) ∙ bytes-number bytes)))
