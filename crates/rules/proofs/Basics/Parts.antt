-- Laws of parts of a list: what holds of each element holds of each of a part, and a part is known by what it lies in.
use Rattle.std.specs.Prelude.{cond}
use mathlib.Core.Path.{◌≡◌, sym, ap, ◌∙◌}
use mathlib.Core.List.{List, [], ◌∷◌, ◌++◌}
use Prim.Native.Nat.{ℕ, zero, suc, ◌+◌, ◌<◌, ◌≤◌}
use native.Mathlib.Nat.{zero-add, suc-add, le_of_suc-le-suc, not-suc-le-zero}
use lib.ListN.{length, get_or, take, drop, set, replicate}
use lib.Seq.{take-take, take-nil}
use mathlib.Core.Bool.{Bool, true, false}
use Rattle.rules.specs.Notation.{Each, empty, each}

module _ {ℓ κ} {A : Type ℓ} {P : A → Type κ} where
  pub each_at : {xs : List A} → Each P xs → (i : ℕ) (d : A) → i < length xs → P (get_or xs i d)
  each_at empty i d h = absurd (not-suc-le-zero h)
  each_at (each p ps) zero d h = p
  each_at (each p ps) (suc i) d h = each_at ps i d (le_of_suc-le-suc h)

  pub each_take : (n : ℕ) {xs : List A} → Each P xs → Each P (take n xs)
  each_take zero ps = empty
  each_take (suc n) empty = empty
  each_take (suc n) (each p ps) = each p (each_take n ps)

  pub each-drop : (n : ℕ) {xs : List A} → Each P xs → Each P (drop n xs)
  each-drop zero ps = ps
  each-drop (suc n) empty = empty
  each-drop (suc n) (each p ps) = each-drop n ps

  pub each_append : {xs ys : List A} → Each P xs → Each P ys → Each P (xs ++ ys)
  each_append empty qs = qs
  each_append (each p ps) qs = each p (each_append ps qs)

  pub each_set : {xs : List A} (i : ℕ) {x : A} → Each P xs → P x → Each P (set xs i x)
  each_set i empty q = empty
  each_set zero (each p ps) q = each q ps
  each_set (suc i) (each p ps) q = each p (each_set i ps q)

  pub each-replicate : (n : ℕ) (x : A) → P x → Each P (replicate n x)
  each-replicate zero x p = empty
  each-replicate (suc n) x p = each p (each-replicate n x p)

  pub each-either : {xs ys : List A} (b : Bool) → Each P xs → Each P ys → Each P (cond b xs ys)
  each-either true ps qs = ps
  each-either false ps qs = qs

  -- what follows of each follows of all
  pub each_weaken {μ} : {Q : A → Type μ} {xs : List A} → ((x : A) → P x → Q x) → Each P xs → Each Q xs
  each_weaken f empty = empty
  each_weaken f (each {x = x} p ps) = each (f x p) (each_weaken f ps)

module _ {ℓ} {A : Type ℓ} where
  part_slice : (k n : ℕ) (l : List A) → take n (drop k l) ≡ drop k (take (k + n) l)
  part_slice zero n l = ap (λ (m : ℕ). take m l) (sym (zero-add n))
  part_slice (suc k) n [] = take-nil n ∙ ap (drop (suc k)) (sym (take-nil (suc k + n)))
  part_slice (suc k) n (x ∷ xs) = part_slice k n xs ∙ ap (λ (m : ℕ). drop (suc k) (take m (x ∷ xs))) (sym (suc-add k n))

  -- lists that begin alike have the same parts there
  pub part_same : (k n m : ℕ) (l l' : List A) → k + n ≤ m → take m l' ≡ take m l → take n (drop k l') ≡ take n (drop k l)
  part_same k n m l l' h e =
      part_slice k n l'
      ∙ ap (drop k) (sym (take-take (k + n) m l' h) ∙ ap (take (k + n)) e ∙ take-take (k + n) m l h)
      ∙ sym (part_slice k n l)
