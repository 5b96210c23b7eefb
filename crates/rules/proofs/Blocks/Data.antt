-- The data blocks of a value, one by one, and the run of stores that lays data blocks.
use mathlib.Core.Path.{◌≡◌, sym, ap, ◌∙◌}
use mathlib.Core.List.{List, [], ◌∷◌, ◌++◌}
use Prim.Native.Nat.{ℕ, suc, ◌+◌, ◌-◌, ◌*◌, ◌/◌, ◌<◌, ◌≤◌}
use native.Mathlib.Nat.{add-zero}
use native.Mathlib.Omega.{arith}
use lib.Dec.{leb}
use lib.ListN.{length, get_or, take, drop, length-append, length-drop}
use lib.Seq.{drop-append-le, length-take-le}
use Rattle.rules.specs.Notation.{erased, Each, empty, each}
use Rattle.rules.specs.Ground.{Block, block_size}
use Rattle.rules.specs.Look.{data_blocks}
use Rattle.rules.specs.Stores.{Store, data', data_stores, value_entry}
use Rattle.rules.proofs.Basics.Notation.{by-test, length-erased, take-erased}
use Rattle.rules.proofs.Basics.Lists.{take-append}
use Rattle.rules.proofs.Basics.Places.{at_each}
use Rattle.rules.proofs.Format.Ground.{length-pieces, get_or-pieces}
use Rattle.rules.proofs.Blocks.OnBytes.{Lies}

-- ---- the blocks of a value

-- sixteen bytes, and as many FF as are missing
pub padded : (w : List ℕ) (n : ℕ) → block_size ≤ length w + n → take block_size (w ++ erased n) ≡ take block_size w ++ erased (block_size - length w)
padded w n enough =
    take-append block_size w (erased n)
    ∙ ap (λ (l : List ℕ). take block_size w ++ l) (take-erased (block_size - length w) n (omega arith))

-- a block begins within the value
pub block-begins : (len k : ℕ) → k < data_blocks len → k * block_size < len
unfolding data_blocks
block-begins len k h =
    by-test (leb len 8)
    (λ small. let none : k < 0 = simp small at h in omega arith)
    (λ long. let some : k < (len + 15) / block_size = simp long at h in omega arith)

module _ (id : ℕ) (v : List ℕ) where
  pub value-count : length (value_entry id v).blocks ≡ data_blocks (length v)
  unfolding value_entry
  value-count = length-pieces (data_blocks (length v)) block_size _

  pub value-block : (k : ℕ) → k < data_blocks (length v)
      → get_or (value_entry id v).blocks k [] ≡ take block_size (drop (k * block_size) v ++ erased block_size)
  unfolding value_entry
  value-block k h =
      let n : ℕ = data_blocks (length v) in
      let rest : ℕ = n * block_size - length v in
      let begins : k * block_size < length v = block-begins (length v) k h in
      let left : length (drop (k * block_size) v) ≡ length v - k * block_size = length-drop (k * block_size) v in
      get_or-pieces n block_size (v ++ erased rest) k h
      ∙ ap (take block_size) (drop-append-le (k * block_size) v (erased rest) (omega arith))
      ∙ padded (drop (k * block_size) v) rest (omega arith)
      ∙ sym (padded (drop (k * block_size) v) block_size (omega arith))

  pub value-sized : Each (λ (b : Block). length b ≡ block_size) (value_entry id v).blocks
  value-sized =
      at_each (λ (b : Block). length b ≡ block_size) [] (value_entry id v).blocks
      (λ k h.
      let w : List ℕ = drop (k * block_size) v in
      ap length (value-block k (omega (arith, value-count)))
      ∙ length-take-le block_size (w ++ erased block_size) (omega (arith, length-append w (erased block_size), length-erased block_size)))

-- ---- a run of stores upward

pub data-append : (s b : ℕ) (xs ys : List Block) → data_stores s b (xs ++ ys) ≡ data_stores s b xs ++ data_stores s (b + length xs) ys
unfolding data_stores
data-append s b [] ys = ap (λ (n : ℕ). data_stores s n ys) (sym (add-zero b))
data-append s b (x ∷ xs) ys =
    let same : suc b + length xs ≡ b + suc (length xs) = omega arith in
    ap (λ (l : List Store). record { sector = s; block = b; kind = data'; bytes = x } ∷ l)
    (data-append s (suc b) xs ys ∙ ap (λ (n : ℕ). data_stores s (suc b) xs ++ data_stores s n ys) same)

pub data-lie : (B S s b : ℕ) {blocks : List Block} → s < S → b + length blocks ≤ B → Each (λ (x : Block). length x ≡ block_size) blocks
    → Each (Lies B S) (data_stores s b blocks)
unfolding data_stores
data-lie B S s b here inside empty = empty
data-lie B S s b here inside (each sized rest) =
    let low : b < B = omega arith in
    each (record { sector = here; block = low; sized = sized }) (data-lie B S s (suc b) here (omega arith) rest)

-- they leave every other sector
pub data-elsewhere : (s b t : ℕ) (blocks : List Block) → (t ≡ s → ⊥) → Each (λ (st : Store). t ≡ st.sector → ⊥) (data_stores s b blocks)
unfolding data_stores
data-elsewhere s b t [] other = empty
data-elsewhere s b t (x ∷ xs) other = each other (data-elsewhere s (suc b) t xs other)
