-- A cut list of stores: what a step may be cut to, and one law that joins two steps.
use mathlib.Core.Path.{◌≡◌, refl, sym, ap, subst, ◌∙◌}
use mathlib.Core.Bool.{Bool, true, false}
use mathlib.Core.List.{List, [], ◌∷◌, ◌++◌}
use mathlib.Core.Logic.{◌⊎◌, inl, inr, ⊎_elim}
use Prim.Native.Nat.{ℕ, ◌+◌, ◌-◌, ◌<◌, ◌≤◌}
use native.Mathlib.Nat.{le_of_lt}
use native.Mathlib.Omega.{arith}
use lib.Dec.{ltb}
use borrow.Author.Tests.{ltb-true, ltb-false}
use lib.ListN.{length, take, length-append}
use lib.Seq.{take-append-le, take-append-add}
use Rattle.rules.specs.Notation.{Each, empty}
use Rattle.rules.specs.Ground.{Image}
use Rattle.rules.specs.Reading.{View}
use Rattle.rules.specs.Meaning.{views_of}
use Rattle.rules.specs.Stores.{Store, Plan, apply, nothing, ◌and_then◌}
use Rattle.rules.proofs.Terms.{IsInside, IsAtomic}
use Rattle.rules.proofs.Basics.Parts.{each_append}

pub apply-append : (xs ys : List Store) (im : Image) → apply (xs ++ ys) im ≡ apply ys (apply xs im)
unfolding apply
apply-append [] ys im = refl
apply-append (x ∷ xs) ys im = apply-append xs ys _

below_or : (k n : ℕ) → (k < n) ⊎ (n ≤ k)
below_or k n = go (ltb k n) refl
  where
    go : (b : Bool) → ltb k n ≡ b → (k < n) ⊎ (n ≤ k)
    go true e = inl (ltb-true k n e)
    go false e = inr (ltb-false k n e)

-- A step on an image: its stores lie within the image; cut anywhere it leaves views of the first sort, whole of the second.
pub record Goes {ℓ} (B S : ℕ) (plan : Plan) (im : Image) (during after : List View → Type ℓ) : Type ℓ where
  pub inside : Each (IsInside B S) (plan im)
  pub cut : (k : ℕ) → k < length (plan im) → during (views_of B (apply (take k (plan im)) im))
  pub whole : after (views_of B (apply (plan im) im))

module _ {ℓ} (B S : ℕ) (im : Image) {during after : List View → Type ℓ} where
  pub goes-nothing : after (views_of B im) → Goes B S nothing im during after
  unfolding nothing apply
  goes-nothing a = record { inside = empty; cut = λ k h. absurd (not-below h); whole = a }
    where
      not-below : {k : ℕ} → k < 0 → ⊥
      not-below h = omega arith

  pub goes-atomic : {plan : Plan} {views : List View} → IsAtomic B S plan im views → during (views_of B im) → after views → Goes B S plan im during after
  goes-atomic {plan} {views} atomic d a =
      record {
        inside = atomic.inside;
        cut = λ k h. subst during (sym (atomic.cut k h)) d;
        whole = subst after (sym atomic.whole) a;
      }

  -- what a whole step leaves, said more weakly
  pub goes-weaken : {more : List View → Type ℓ} {plan : Plan} → ((views : List View) → after views → more views) → Goes B S plan im during after → Goes B S plan im during more
  goes-weaken {plan = plan} weaker g = record { inside = g.inside; cut = g.cut; whole = weaker (views_of B (apply (plan im) im)) g.whole }

  -- a step goes by its stores on this image alone
  pub goes_same : (plan other : Plan) → plan im ≡ other im → Goes B S plan im during after → Goes B S other im during after
  goes_same plan other same g =
      record {
        inside = subst (Each (IsInside B S)) same g.inside;
        cut = λ k h. subst (λ (ss : List Store). during (views_of B (apply (take k ss) im))) same (g.cut k (subst (λ (ss : List Store). k < length ss) (sym same) h));
        whole = subst (λ (ss : List Store). after (views_of B (apply ss im))) same g.whole;
      }

  -- one step after another: a cut falls into the first, or the first is whole
  pub goes_then : {middle : List View → Type ℓ} (first second : Plan) → Goes B S first im during middle
      → Goes B S second (apply (first im) im) during after
      → Goes B S (first and_then second) im during after
  unfolding ◌and_then◌
  goes_then {middle} first second f g =
      record {
        inside = each_append f.inside g.inside;
        cut = λ k h. ⊎_elim (within k) (beyond k h) (below_or k (length (first im)));
        whole = subst (λ (i : Image). after (views_of B i)) (sym (apply-append (first im) (second (apply (first im) im)) im)) g.whole;
      }
    where
      rest : List Store
      rest = second (apply (first im) im)

      within : (k : ℕ) → k < length (first im) → during (views_of B (apply (take k (first im ++ rest)) im))
      within k h = subst (λ (ss : List Store). during (views_of B (apply ss im))) (sym (take-append-le k (first im) rest (le_of_lt h))) (f.cut k h)

      beyond : (k : ℕ) → k < length (first im ++ rest) → length (first im) ≤ k → during (views_of B (apply (take k (first im ++ rest)) im))
      beyond k h past =
          let j : ℕ = k - length (first im) in
          let at-k : k ≡ length (first im) + j = omega arith in
          let split : take k (first im ++ rest) ≡ first im ++ take j rest =
          ap (λ (n : ℕ). take n (first im ++ rest)) at-k ∙ take-append-add (first im) rest j in
          let short : j < length rest = omega (arith, length-append (first im) rest) in
          subst (λ (ss : List Store). during (views_of B (apply ss im))) (sym split)
          (subst (λ (i : Image). during (views_of B i)) (sym (apply-append (first im) (take j rest) im)) (g.cut j short))
