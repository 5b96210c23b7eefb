-- One data block of a value, and a run of stores upward, block by block.
-- Assumes nothing.
use mathlib.Core.Path.{◌≡◌, sym, ap, ap₂, ◌∙◌}
use mathlib.Core.Bool.{true}
use mathlib.Core.List.{List, [], ◌∷◌, ◌++◌}
use Prim.Native.Nat.{ℕ, ◌+◌, ◌-◌, ◌<◌, ◌≤◌}
use native.Mathlib.Numerals.{add-one}
use native.Mathlib.Omega.{arith}
use lib.Dec.{ltb}
use lib.ListN.{length, get_or, take, drop, take-append-drop}
use lib.Seq.{take-suc, take_all, length-take-le}
use borrow.Author.Tests.{ltb-true, ltb-false}
use Rattle.std.specs.Prelude.{Result, Err, is_err}
use Rattle.rules.specs.Notation.{erased}
use Rattle.rules.specs.Ground.{Block, block_size}
use Rattle.rules.specs.Stores.{Store, data', data_stores}
use Rattle.rules.proofs.Basics.Notation.{by-test, drop-erased}
use Rattle.rules.proofs.Blocks.Data.{padded, data-append}
use Rattle.budget.specs.declared.Cut.{Cut}
use Rattle.budget.specs.declared.Writer.{Writer}
use Rattle.budget.specs.Budget.{Did}
use Rattle.budget.proofs.Laws.{Made, did_then, did-cut}

-- ---- one block of a value

-- the first i bytes of a value and then FF, where that is all of a block, or all there are
pub block_of : (w : List ℕ) (i : ℕ) → i ≤ block_size → i ≤ length w → block_size - length w ≡ block_size - i
    → take i w ++ drop i (erased block_size) ≡ take block_size (w ++ erased block_size)
block_of w i few inside rest =
    ap₂ ◌++◌ (sym first) (drop-erased i block_size few ∙ ap erased (sym rest)) ∙ sym (padded w block_size (omega arith))
  where
    first : take block_size w ≡ take i w
    first =
        by-test (ltb i block_size)
        (λ less.
        let all : length w ≡ i = omega (arith, ltb-true i block_size less) in
        take_all block_size w (omega arith) ∙ sym (take_all i w (omega arith)))
        (λ full. let same : block_size ≡ i = omega (arith, ltb-false i block_size full) in ap (λ (n : ℕ). take n w) same)

-- ---- a run of stores upward

module _ {T : Type 0} {w w' w'' : Writer} {r : Result T Cut} (s b : ℕ) (blocks : List Block) (k : ℕ)
    (did : Made w (data_stores s b (take k blocks)) w') (inside : k < length blocks)
    (next : Did w' (record { sector = s; block = b + k; kind = data'; bytes = get_or blocks k [] } ∷ []) w'' r) where
  -- one block more
  pub data-more : Did w (data_stores s b (take (k + 1) blocks)) w'' r
  unfolding data_stores
  data-more =
      let count : length (take k blocks) ≡ k = length-take-le k blocks (omega arith) in
      let last : Store = record { sector = s; block = b + k; kind = data'; bytes = get_or blocks k [] } in
      let same : data_stores s b (take (k + 1) blocks) ≡ data_stores s b (take k blocks) ++ (last ∷ []) =
      ap (λ (n : ℕ). data_stores s b (take n blocks)) (add-one k)
      ∙ ap (data_stores s b) (take-suc blocks k [] inside)
      ∙ data-append s b (take k blocks) (get_or blocks k [] ∷ [])
      ∙ ap (λ (n : ℕ). data_stores s b (take k blocks) ++ data_stores s (b + n) (get_or blocks k [] ∷ [])) count in
      rw same (did_then did next)

-- cut at a block: no more are made
pub data-cut : {T U : Type 0} {w w' : Writer} {e : Cut} {r : Result U Cut} (s b : ℕ) (blocks : List Block) (k : ℕ)
    → Did {T = T} w (data_stores s b (take k blocks)) w' (Err e) → is_err r ≡ true → Did w (data_stores s b blocks) w' r
data-cut s b blocks k did cut =
    let same : data_stores s b blocks ≡ data_stores s b (take k blocks) ++ data_stores s (b + length (take k blocks)) (drop k blocks) =
    ap (data_stores s b) (sym (take-append-drop k blocks)) ∙ data-append s b (take k blocks) (drop k blocks) in
    rw same (did-cut _ did cut)

-- the last block: that is all
pub data-all : {w w' : Writer} (s b : ℕ) (blocks : List Block) (k : ℕ)
    → Made w (data_stores s b (take k blocks)) w' → length blocks ≤ k → Made w (data_stores s b blocks) w'
data-all s b blocks k did whole = rw (take_all k blocks whole) at did
