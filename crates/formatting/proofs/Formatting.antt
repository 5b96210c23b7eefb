-- The stores of a format: a final store by its kind, and final blocks and sectors in two parts.
-- Assumes nothing.
use Rattle.std.specs.Prelude.{if◌then◌else◌}
use mathlib.Core.Path.{◌≡◌, refl, sym, ap, ◌∙◌}
use mathlib.Core.Bool.{Bool, true, false, ◌&&◌}
use mathlib.Core.List.{List, [], ◌∷◌, ◌++◌, append_assoc, append-nil}
use Prim.Native.Nat.{ℕ, zero, suc, ◌+◌, ◌-◌, ◌≤◌}
use native.Mathlib.Nat.{zero-add, add-zero}
use native.Mathlib.Omega.{arith}
use lib.Dec.{eqb, leb}
use Rattle.rules.specs.Stores as rule
use Rattle.rules.specs.Stores.{Store, blank_store, final_store, final_blocks, final_sectors}
use Rattle.rules.specs.Entry.{lead_block, close_block, done_block}
use Rattle.formatting.specs.Finals.{kind_bytes}

-- ---- one store

-- its sector and block are the ones asked for, and its bytes those of its kind
abbrev Made : (s b : ℕ) → Store → Type 0
Made s b st = st ≡ record { sector = s; block = b; kind = st.kind; bytes = kind_bytes st.kind }

pub final-made : (B s b : ℕ) → Made s b (final_store B s b)
unfolding final_store kind_bytes blank_store
final-made B s b = go (eqb b (B - 1)) (eqb b (B - 2) && leb 2 s) (eqb b (B - 3) && eqb s 0)
  where
    go : (first second third : Bool)
        → Made s b (
        if first then record { sector = s; block = b; kind = rule.lead; bytes = lead_block 1 }
        else if second then record { sector = s; block = b; kind = rule.close; bytes = close_block 1 }
        else if third then record { sector = s; block = b; kind = rule.done; bytes = done_block 1 }
        else blank_store s b)
    go true second third = refl
    go false true third = refl
    go false false true = refl
    go false false false = refl

-- the store of a block by what was worked out for it
pub final-by : (B s b : ℕ) {kind : rule.Kind} {bytes : List ℕ} → kind ≡ (final_store B s b).kind → bytes ≡ kind_bytes kind
    → ◌≡◌ {A = Store} (record { sector = s; block = b; kind = kind; bytes = bytes }) (final_store B s b)
final-by B s b known made = rw (made, known) (sym (final-made B s b))

-- ---- in two parts

blocks-append : (B s b m n : ℕ) → final_blocks B s b (m + n) ≡ final_blocks B s b m ++ final_blocks B s (b + m) n
unfolding final_blocks
blocks-append B s b zero n = rw (zero-add, add-zero)
blocks-append B s b (suc m) n =
    let count : suc m + n ≡ suc (m + n) = omega arith in
    let place : b + suc m ≡ suc b + m = omega arith in
    rw (count, place, blocks-append B s (suc b) m n)

sectors-append : (B s m n : ℕ) → final_sectors B s (m + n) ≡ final_sectors B s m ++ final_sectors B (s + m) n
unfolding final_sectors
sectors-append B s zero n = rw (zero-add, add-zero)
sectors-append B s (suc m) n =
    let count : suc m + n ≡ suc (m + n) = omega arith in
    let place : s + suc m ≡ suc s + m = omega arith in
    rw (count, place, sectors-append B (suc s) m n) (sym (append_assoc (final_blocks B s 0 B) _ _))

-- the first b blocks, and those from block b on
pub blocks-split : (B s b count : ℕ) → b ≤ count → final_blocks B s 0 count ≡ final_blocks B s 0 b ++ final_blocks B s b (count - b)
blocks-split B s b count h =
    let all : count ≡ b + (count - b) = omega arith in
    ap (final_blocks B s 0) all ∙ blocks-append B s 0 b (count - b) ∙ rw zero-add

pub blocks-next : (B s b : ℕ) → final_blocks B s 0 (b + 1) ≡ final_blocks B s 0 b ++ (final_store B s b ∷ [])
unfolding final_blocks
blocks-next B s b = blocks-append B s 0 b 1 ∙ rw zero-add

-- the sectors from 1 to below s, and those from s on
pub sectors-split : (B s S : ℕ) → 1 ≤ s → s ≤ S → final_sectors B 1 (S - 1) ≡ final_sectors B 1 (s - 1) ++ final_sectors B s (S - s)
sectors-split B s S from to =
    let all : S - 1 ≡ (s - 1) + (S - s) = omega arith in
    let place : 1 + (s - 1) ≡ s = omega arith in
    ap (final_sectors B 1) all ∙ sectors-append B 1 (s - 1) (S - s) ∙ rw place

pub sectors-next : (B s : ℕ) → 1 ≤ s → final_sectors B 1 (s + 1 - 1) ≡ final_sectors B 1 (s - 1) ++ final_blocks B s 0 B
unfolding final_sectors
sectors-next B s from =
    let all : s + 1 - 1 ≡ (s - 1) + 1 = omega arith in
    let place : 1 + (s - 1) ≡ s = omega arith in
    ap (final_sectors B 1) all ∙ sectors-append B 1 (s - 1) 1 ∙ rw (place, append-nil)
