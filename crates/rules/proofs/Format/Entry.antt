-- Laws of the entry: what was encoded is read back from its fields.
use mathlib.Core.Path.{◌≡◌, refl, ap}
use mathlib.Core.Bool.{true}
use mathlib.Core.List.{List, ◌++◌}
use Prim.Native.Nat.{ℕ, suc, ◌-◌, ◌<◌, ◌≤◌, ◌^◌}
use native.Mathlib.Omega.{arith}
use lib.ListN.{length, take, drop, length-append}
use borrow.Author.Tests.{eq-eqb}
use Rattle.rules.specs.Notation.{bytes_of, number_of, erased}
use Rattle.rules.specs.Ground.{block_size, reserved_id}
use Rattle.rules.specs.Checksum.{crc8}
use Rattle.rules.specs.Entry.{check_of, cycle_of, length_of, id_of, body_of, offset_of, crc32_of, fields, sealed, encode, numbers, lead_length, lead_mark, lead_block, close_block, deletion_block, small_value_block, long_value_block}
use Rattle.rules.specs.Look.{is_checked}
use Rattle.rules.proofs.Basics.Notation.{number-bytes, length-erased}

-- what a law of a kind assumes of its numbers: each fits its field
pub record Fit (len id : ℕ) (body : List ℕ) : Type 0 where
  pub short : len < 2 ^ 16
  pub named : id < 2 ^ 32
  pub whole : length body ≡ 8

module _ (cycle len id : ℕ) (body : List ℕ) where
  pub checked-encode : is_checked (encode cycle len id body) ≡ true
  unfolding is_checked encode sealed check_of
  checked-encode = let check : ℕ = crc8 (fields cycle len id body) in eq-eqb check check refl

  pub cycle-encode : cycle_of (encode cycle len id body) ≡ cycle
  unfolding encode sealed fields cycle_of
  cycle-encode = refl

  pub length-of-encode : len < 2 ^ 16 → length_of (encode cycle len id body) ≡ len
  unfolding encode sealed fields length_of bytes_of
  length-of-encode h = number-bytes 2 len h

  pub id-encode : id < 2 ^ 32 → id_of (encode cycle len id body) ≡ id
  unfolding encode sealed fields id_of bytes_of
  id-encode h = number-bytes 4 id h

  pub body-encode : body_of (encode cycle len id body) ≡ body
  unfolding encode sealed fields body_of bytes_of
  body-encode = refl

  pub length-encode : length body ≡ 8 → length (encode cycle len id body) ≡ block_size
  unfolding encode sealed fields bytes_of
  length-encode h = ap (λ (n : ℕ). suc (suc (suc (suc (suc (suc (suc (suc n)))))))) h

-- the bodies of the kinds
pub length-numbers : (a b : ℕ) → length (numbers a b) ≡ 8
unfolding numbers bytes_of
length-numbers a b = refl

pub first-number : (a b : ℕ) → a < 2 ^ 32 → number_of (take 4 (numbers a b)) ≡ a
unfolding numbers bytes_of
first-number a b h = number-bytes 4 a h

pub second-number : (a b : ℕ) → b < 2 ^ 32 → number_of (take 4 (drop 4 (numbers a b))) ≡ b
unfolding numbers bytes_of
second-number a b h = number-bytes 4 b h

pub length-padded : (value : List ℕ) → length value ≤ 8 → length (value ++ erased (8 - length value)) ≡ 8
length-padded value h = simp (length-append, length-erased) (omega arith)

pub offset-encode : (cycle len id a b : ℕ) → a < 2 ^ 32 → offset_of (encode cycle len id (numbers a b)) ≡ a
unfolding encode sealed fields offset_of bytes_of
offset-encode cycle len id a b h = first-number a b h

pub crc32-encode : (cycle len id a b : ℕ) → b < 2 ^ 32 → crc32_of (encode cycle len id (numbers a b)) ≡ b
unfolding encode sealed fields crc32_of bytes_of
crc32-encode cycle len id a b h = second-number a b h

-- each kind fills a block
pub length-lead : (cycle : ℕ) → length (lead_block cycle) ≡ block_size
unfolding lead_block
length-lead cycle = length-encode cycle lead_length reserved_id (numbers 0 lead_mark) (length-numbers 0 lead_mark)

pub length-close : (cycle : ℕ) → length (close_block cycle) ≡ block_size
unfolding close_block
length-close cycle = length-encode cycle 0 reserved_id (erased 8) (length-erased 8)

pub length-deletion : (cycle id : ℕ) → length (deletion_block cycle id) ≡ block_size
unfolding deletion_block
length-deletion cycle id = length-encode cycle 0 id (erased 8) (length-erased 8)

pub length-small-value : (cycle id : ℕ) (value : List ℕ) → length value ≤ 8 → length (small_value_block cycle id value) ≡ block_size
unfolding small_value_block
length-small-value cycle id value few =
    length-encode cycle (length value) id (value ++ erased (8 - length value)) (length-padded value few)

pub length-long-value : (cycle id len offset crc : ℕ) → length (long_value_block cycle id len offset crc) ≡ block_size
unfolding long_value_block
length-long-value cycle id len offset crc = length-encode cycle len id (numbers offset crc) (length-numbers offset crc)
