-- Every entry that is made is proper: a done, a deletion, and a value of any length that fits its field.
use Rattle.std.specs.Prelude.{if◌then◌else◌}
use mathlib.Core.Path.{◌≡◌, refl, ap, ◌∙◌}
use mathlib.Core.Bool.{Bool, true, false}
use mathlib.Core.List.{List, ◌++◌}
use Prim.Native.Nat.{ℕ, zero, suc, ◌*◌, ◌-◌, ◌^◌, ◌<◌, ◌≤◌}
use native.Mathlib.Omega.{arith}
use lib.Dec.{ltb}
use lib.ListN.{length, length-append, length-drop}
use lib.Seq.{drop_at, length-take-le}
use borrow.Author.Tests.{ltb-true, ltb-false}
use Rattle.rules.specs.Notation.{pieces, bytes_of, erased, is_erased, Each, empty, each}
use Rattle.rules.specs.Ground.{block_size, reserved_id}
use Rattle.rules.specs.Checksum.{crc32}
use Rattle.rules.specs.Look.{value, data_of, data_blocks}
use Rattle.rules.specs.Stores.{done_entry, deletion_entry, value_entry}
use Rattle.rules.proofs.Terms.{IsBlock, HeadFits, fits-done, fits-deletion, fits-small, fits-long, IsProper}
use Rattle.rules.proofs.Basics.Notation.{erased-is, length-erased, length-bytes_of}
use Rattle.rules.proofs.Format.Entry.{length-padded}
use Rattle.rules.proofs.Basics.Parts.{each_take, each-drop, each_append, each-either}
use Rattle.rules.proofs.Blocks.Written.{each-bytes_of, each-erased}
use Rattle.rules.proofs.Format.Ground.{length-pieces}

pub done-proper : IsProper done_entry
unfolding done_entry data_of
done-proper = record { fits = fits-done (length-erased 8) (erased-is 8); bytes = each-erased 8; counted = refl; blocks = empty }

-- whole pieces of bytes are blocks
pieces-blocks : (n : ℕ) {xs : List ℕ} → n * block_size ≤ length xs → Each (λ b. b < 256) xs → Each IsBlock (pieces n block_size xs)
unfolding pieces
pieces-blocks zero enough bytes = empty
pieces-blocks (suc n) {xs} enough bytes =
    each
    (record { sized = length-take-le block_size xs (omega arith); bytes = each_take block_size bytes })
    (pieces-blocks n (omega (arith, length-drop block_size xs)) (each-drop block_size bytes))

module _ (id : ℕ) (named : id < 2 ^ 32) (user : id ≡ reserved_id → ⊥) where
  pub deletion-proper : IsProper (deletion_entry id)
  unfolding deletion_entry data_of
  deletion-proper = record { fits = fits-deletion named user (length-erased 8) (erased-is 8); bytes = each-erased 8; counted = refl; blocks = empty }

  value-fits : (bytes : List ℕ) → 1 ≤ length bytes → length bytes < 2 ^ 16
      → HeadFits (value id (length bytes)) (if ltb 8 (length bytes) then bytes_of 4 (crc32 bytes) else bytes ++ erased (8 - length bytes))
  value-fits bytes one short = go (ltb 8 (length bytes)) refl
    where
      go : (long : Bool) → ltb 8 (length bytes) ≡ long → HeadFits (value id (length bytes)) (if long then bytes_of 4 (crc32 bytes) else bytes ++ erased (8 - length bytes))
      go true many = fits-long named user (ltb-true 8 (length bytes) many) short (length-bytes_of 4 (crc32 bytes))
      go false few =
          let pad : List ℕ = erased (8 - length bytes) in
          let small : length bytes ≤ 8 = ltb-false 8 (length bytes) few in
          (fits-small named user one small (length-padded bytes small) (ap is_erased (drop_at bytes pad (length bytes) refl) ∙ erased-is (8 - length bytes)))

  pub value-proper : {bytes : List ℕ} → Each (λ b. b < 256) bytes → 1 ≤ length bytes → length bytes < 2 ^ 16 → IsProper (value_entry id bytes)
  unfolding value_entry data_of
  value-proper {bytes} all-bytes one short =
      let len : ℕ = length bytes in
      let pad : List ℕ = erased (data_blocks len * block_size - len) in
      record {
        fits = value-fits bytes one short;
        bytes = each-either (ltb 8 len) (each-bytes_of 4 (crc32 bytes)) (each_append all-bytes (each-erased (8 - len)));
        counted = length-pieces (data_blocks len) block_size (bytes ++ pad);
        blocks =
            pieces-blocks (data_blocks len)
            (omega (arith, length-append bytes pad, length-erased (data_blocks len * block_size - len)))
            (each_append all-bytes (each-erased (data_blocks len * block_size - len)));
      }
