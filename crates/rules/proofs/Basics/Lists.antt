-- Laws of lists that are not about the store: a part of a part, the elements one by one, a run of stores seen through `take` and `drop`, `map`.
-- Assumes nothing.
use mathlib.Core.Path.{◌≡◌, refl, sym, ap, ◌∙◌}
use mathlib.Core.List.{List, [], ◌∷◌, ◌++◌, map, append-nil}
use Prim.Native.Nat.{ℕ, zero, suc, ◌+◌, ◌-◌, ◌≤◌, ◌<◌}
use native.Mathlib.Nat.{le_of_suc-le-suc, not-suc-le-zero, add-suc, sub-zero, zero-sub, suc-sub-suc}
use native.Mathlib.Omega.{arith}
use lib.ListN.{length, get_or, set, take, drop, length-drop, drop_of_length-le}
use lib.Seq.{take_all, take-nil, drop-cons, sets, sets-eq, paste, take-length, length-take-le, take-take, take-set-le, drop-set-lt, take-set-lt, drop-set-add, get_or-set_other}

module _ {ℓ} {A : Type ℓ} where
  -- ---- a part of a part

  -- k elements from place m, of the first n: the rest of the list does not matter
  pub part-of-take : (k m n : ℕ) (l : List A) → m + k ≤ n → take k (drop m (take n l)) ≡ take k (drop m l)
  part-of-take k zero n l h = take-take k n l (omega arith)
  part-of-take k (suc m) zero l h = absurd (omega arith)
  part-of-take k (suc m) (suc n) [] h = refl
  part-of-take k (suc m) (suc n) (x ∷ xs) h = part-of-take k m n xs (omega arith)

  pub length_part : (k m : ℕ) (l : List A) → m + k ≤ length l → length (take k (drop m l)) ≡ k
  length_part k m l h = length-take-le k (drop m l) (simp length-drop (omega arith))

  -- what is left from place m on
  pub part_to_end : (m : ℕ) (l : List A) → take (length l - m) (drop m l) ≡ drop m l
  part_to_end m l = take_all (length l - m) (drop m l) (omega (arith, length-drop m l))

  -- the first n of one list after another
  pub take-append : (n : ℕ) (xs ys : List A) → take n (xs ++ ys) ≡ take n xs ++ take (n - length xs) ys
  take-append n [] ys = ap (λ (m : ℕ). take m ys) (sym (sub-zero n)) ∙ ap (λ (l : List A). l ++ take (n - 0) ys) (sym (take-nil n))
  take-append zero (x ∷ xs) ys = ap (λ (m : ℕ). take m ys) (sym (zero-sub (suc (length xs))))
  take-append (suc n) (x ∷ xs) ys =
      ap (λ (l : List A). x ∷ l) (take-append n xs ys)
      ∙ ap (λ (m : ℕ). x ∷ (take n xs ++ take m ys)) (sym (suc-sub-suc n (length xs)))

  -- ---- a list by its elements

  -- n elements from place i on
  unfoldable pub elements : (i n : ℕ) → A → List A → List A
  elements i zero d l = []
  elements i (suc n) d l = get_or l i d ∷ elements (suc i) n d l

  pub by-elements : (i n : ℕ) (d : A) (l : List A) → length l ≡ i + n → drop i l ≡ elements i n d l
  unfolding elements
  by-elements i zero d l e = drop_of_length-le l {i = i} (omega arith)
  by-elements i (suc n) d l e =
      drop-cons l i d (omega arith) ∙ ap (λ (r : List A). get_or l i d ∷ r) (by-elements (suc i) n d l (omega arith))

  -- ---- a run of stores: it stays on its side of a cut

  pub take-sets-le : (n : ℕ) (l : List A) (i : ℕ) (vs : List A) → n ≤ i → take n (sets l i vs) ≡ take n l
  take-sets-le n l i [] h = refl
  take-sets-le n l i (v ∷ vs) h = take-sets-le n (set l i v) (suc i) vs (omega arith) ∙ take-set-le n l i v h

  pub drop-sets-le : (n : ℕ) (l : List A) (i : ℕ) (vs : List A) → i + length vs ≤ n → drop n (sets l i vs) ≡ drop n l
  drop-sets-le n l i [] h = refl
  drop-sets-le n l i (v ∷ vs) h = drop-sets-le n (set l i v) (suc i) vs (omega arith) ∙ drop-set-lt n l i v (omega arith)

  pub take-sets : (n : ℕ) (l : List A) (i : ℕ) (vs : List A) → i + length vs ≤ n → take n (sets l i vs) ≡ sets (take n l) i vs
  take-sets n l i [] h = refl
  take-sets n l i (v ∷ vs) h =
      take-sets n (set l i v) (suc i) vs (omega arith) ∙ ap (λ (r : List A). sets r (suc i) vs) (take-set-lt n l i v (omega arith))

  pub drop-sets-add : (n : ℕ) (l : List A) (i : ℕ) (vs : List A) → drop n (sets l (n + i) vs) ≡ sets (drop n l) i vs
  drop-sets-add n l i [] = refl
  drop-sets-add n l i (v ∷ vs) =
      ap (λ (j : ℕ). drop n (sets (set l (n + i) v) j vs)) (sym (add-suc n i))
      ∙ drop-sets-add n (set l (n + i) v) (suc i) vs
      ∙ ap (λ (r : List A). sets r (suc i) vs) (drop-set-add n l i v)

  -- an element outside of the run stands
  pub sets-stands : (l : List A) (i : ℕ) (vs : List A) (j : ℕ) (d : A) → (i ≤ j → j < i + length vs → ⊥) → get_or (sets l i vs) j d ≡ get_or l j d
  sets-stands l i [] j d out = refl
  sets-stands l i (v ∷ vs) j d out =
      sets-stands (set l i v) (suc i) vs j d (λ from to. out (omega arith) (omega arith)) ∙ get_or-set_other l i j v d (λ e. out (omega arith) (omega arith))

  -- a run of stores is a copy of the whole run
  pub sets-paste : (l : List A) (i : ℕ) (vs : List A) → i + length vs ≤ length l → sets l i vs ≡ paste l i vs (length vs)
  sets-paste l i vs h =
      sets-eq vs l i h ∙ ap (λ (r : List A). take i l ++ r ++ drop (i + length vs) l) (sym (take-length vs))

  -- every element replaced
  pub sets-all : (l vs : List A) → length vs ≡ length l → sets l 0 vs ≡ vs
  sets-all l vs e =
      sets-eq vs l 0 (omega arith)
      ∙ ap (λ (r : List A). vs ++ r) (drop_of_length-le l {i = 0 + length vs} (omega arith))
      ∙ append-nil vs

module _ {ℓ κ} {A : Type ℓ} {B : Type κ} where
  -- ---- `map`

  pub get_d_map : (f : A → B) (l : List A) (i : ℕ) (d : A) (e : B) → i < length l → get_or (map f l) i e ≡ f (get_or l i d)
  get_d_map f [] i d e h = absurd (not-suc-le-zero h)
  get_d_map f (x ∷ xs) zero d e h = refl
  get_d_map f (x ∷ xs) (suc i) d e h = get_d_map f xs i d e (le_of_suc-le-suc h)

  pub map-set : (f : A → B) (l : List A) (i : ℕ) (y : A) → map f (set l i y) ≡ set (map f l) i (f y)
  map-set f [] i y = refl
  map-set f (x ∷ xs) zero y = refl
  map-set f (x ∷ xs) (suc i) y = ap (λ (r : List B). f x ∷ r) (map-set f xs i y)
