-- A table is right at each of its entries, by one test that antt computes over the whole table.
use mathlib.Core.Path.{◌≡◌, ◌∙◌, ap, sym, subst⁻¹}
use mathlib.Core.Bool.{Bool, true, false, ◌&&◌}
use mathlib.Core.List.{List, [], ◌∷◌}
use Prim.Native.Nat.{ℕ, zero, suc, ◌+◌, ◌<◌}
use native.Mathlib.Nat.{add-zero, zero-add, add-suc, suc-add, le_of_suc-le-suc, not-suc-le-zero}
use lib.Dec.{T, eqb, eqb→eq}
use lib.ListN.{length, get_or}
use Rattle.rules.specs.Notation.{times}

-- is each entry, counted from k, eight steps of its place?
unfoldable pub is_right : (step : ℕ → ℕ) → ℕ → List ℕ → Bool
is_right step k [] = true
is_right step k (x ∷ xs) = eqb x (times 8 step k) && is_right step (suc k) xs

both : (a b : Bool) → T (a && b) → T a × T b
both true b t = (tt, t)
both false b t = absurd t

entry-from : (step : ℕ → ℕ) (table : List ℕ) (i : ℕ) → T (is_right step i table)
    → (k : ℕ) → k < length table → get_or table k 0 ≡ times 8 step (i + k)
unfolding is_right
entry-from step [] i t k h = absurd (not-suc-le-zero h)
entry-from step (x ∷ xs) i t zero h = rw add-zero (eqb→eq x _ (both (eqb x (times 8 step i)) _ t).0)
entry-from step (x ∷ xs) i t (suc k) h =
    entry-from step xs (suc i) (both (eqb x (times 8 step i)) _ t).1 k (le_of_suc-le-suc h)
    ∙ ap (times 8 step) (suc-add i k ∙ sym (add-suc i k))

-- so its entry for a byte is eight steps of that byte
pub right : (step : ℕ → ℕ) (table : List ℕ) → T (is_right step 0 table) → length table ≡ 256
    → (k : ℕ) → k < 256 → get_or table k 0 ≡ times 8 step k
right step table t n k h =
    entry-from step table 0 t k (subst⁻¹ (λ (m : ℕ). k < m) n h) ∙ ap (times 8 step) (zero-add k)
