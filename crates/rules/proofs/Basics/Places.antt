-- Laws of the places of a list: what all, any, places_from and Each say of each of them.
use mathlib.Core.Path.{◌≡◌, refl, sym, ap, subst, ◌∙◌}
use mathlib.Core.Bool.{Bool, true, false, ◌||◌, or_assoc}
use mathlib.Core.List.{List, [], ◌∷◌, ◌++◌}
use mathlib.Core.Logic.{◌⊎◌, ⊎_elim, by_cases}
use Prim.Native.Nat.{ℕ, zero, suc, ◌+◌, ◌<◌, suc-le-suc}
use native.Mathlib.Nat.{le_of_suc-le-suc, suc_inj}
use native.Mathlib.Omega.{arith}
use native.Mathlib.Decide.{ℕ_discrete}
use lib.ListN.{length, get_or}
use Rattle.rules.specs.Notation.{any, all, places_from, Each, empty, each}
use Rattle.rules.proofs.Basics.Notation.{both_true, if-cases}

-- The test fails at each place; it holds at one place and fails at all others.
abbrev pub Nowhere {ℓ} : {A : Type ℓ} → (A → Bool) → A → List A → Type 0
Nowhere test d xs = (s : ℕ) → s < length xs → test (get_or xs s d) ≡ false

pub record Only {ℓ} {A : Type ℓ} (test : A → Bool) (d : A) (xs : List A) (p : ℕ) : Type 0 where
  pub here : p < length xs
  pub holds : test (get_or xs p d) ≡ true
  pub others : (s : ℕ) → s < length xs → (s ≡ p → ⊥) → test (get_or xs s d) ≡ false

-- a place is this one, or another
pub here-or {κ} : (P : ℕ → Type κ) (p s : ℕ) → P p → ((s ≡ p → ⊥) → P s) → P s
here-or P p s here other = by_cases (ℕ_discrete s p) (λ e. subst P (sym e) here) other

module _ {ℓ} {A : Type ℓ} (test : A → Bool) where
  pub any_append : (xs ys : List A) → any test (xs ++ ys) ≡ (any test xs || any test ys)
  unfolding any
  any_append [] ys = refl
  any_append (x ∷ xs) ys = ap (λ (b : Bool). test x || b) (any_append xs ys) ∙ sym (or_assoc (test x) (any test xs) (any test ys))

  module _ (d : A) where
    -- a test of all elements is a test at each place
    pub all-each : (xs : List A) → all test xs ≡ true → (s : ℕ) → s < length xs → test (get_or xs s d) ≡ true
    unfolding all
    all-each [] e s h = absurd (omega arith)
    all-each (x ∷ xs) e zero h = (both_true (test x) (all test xs) e).0
    all-each (x ∷ xs) e (suc s) h = all-each xs (both_true (test x) (all test xs) e).1 s (le_of_suc-le-suc h)

    pub each_all : (xs : List A) → ((s : ℕ) → s < length xs → test (get_or xs s d) ≡ true) → all test xs ≡ true
    unfolding all
    each_all [] h = refl
    each_all (x ∷ xs) h =
        let here : test x ≡ true = h zero (omega arith) in
        let rest : all test xs ≡ true = each_all xs (λ s b. h (suc s) (suc-le-suc b)) in
        simp (here, rest)

    -- The places of one more element: here, or all later.
    skipped : (k : ℕ) (x : A) (xs : List A) → test x ≡ false → places_from k test (x ∷ xs) ≡ places_from (suc k) test xs
    unfolding places_from
    skipped k x xs e = simp e

    taken : (k : ℕ) (x : A) (xs : List A) → test x ≡ true → places_from k test (x ∷ xs) ≡ k ∷ places_from (suc k) test xs
    unfolding places_from
    taken k x xs e = simp e

    which : (k : ℕ) (x : A) (xs : List A) {ps : List ℕ} → places_from k test (x ∷ xs) ≡ ps
        → ((test x ≡ true) × (k ∷ places_from (suc k) test xs ≡ ps)) ⊎ ((test x ≡ false) × (places_from (suc k) test xs ≡ ps))
    unfolding places_from
    which k x xs e = if-cases (test x) _ _ e

    nowhere-more : (x : A) (xs : List A) → test x ≡ false → Nowhere test d xs → Nowhere test d (x ∷ xs)
    nowhere-more x xs e none-later zero h = e
    nowhere-more x xs e none-later (suc s) h = none-later s (le_of_suc-le-suc h)

    only_here : (x : A) (xs : List A) → test x ≡ true → Nowhere test d xs → Only test d (x ∷ xs) 0
    only_here x xs e none-later = record { here = omega arith; holds = e; others = other }
      where
        other : (s : ℕ) → s < length (x ∷ xs) → (s ≡ 0 → ⊥) → test (get_or (x ∷ xs) s d) ≡ false
        other zero h n = absurd (n refl)
        other (suc s) h n = none-later s (le_of_suc-le-suc h)

    only-later : (x : A) (xs : List A) {p : ℕ} → test x ≡ false → Only test d xs p → Only test d (x ∷ xs) (suc p)
    only-later x xs {p} e one = record { here = suc-le-suc one.here; holds = one.holds; others = other }
      where
        other : (s : ℕ) → s < length (x ∷ xs) → (s ≡ suc p → ⊥) → test (get_or (x ∷ xs) s d) ≡ false
        other zero h n = e
        other (suc s) h n = one.others s (le_of_suc-le-suc h) (λ q. n (ap suc q))

    no-places-from : (k : ℕ) (xs : List A) → places_from k test xs ≡ [] → Nowhere test d xs
    no-places-from k [] e = λ s h. absurd (omega arith)
    no-places-from k (x ∷ xs) e =
        ⊎_elim
        (λ l. let z : ◌≡◌ {A = ℕ} 0 1 = cc l.1 in absurd (omega arith))
        (λ r. nowhere-more x xs r.0 (no-places-from (suc k) xs r.1))
        (which k x xs e)

    nowhere-from : (k : ℕ) (xs : List A) → Nowhere test d xs → places_from k test xs ≡ []
    unfolding places_from
    nowhere-from k [] h = refl
    nowhere-from k (x ∷ xs) h =
        skipped k x xs (h zero (omega arith)) ∙ nowhere-from (suc k) xs (λ s b. h (suc s) (suc-le-suc b))

    one-place-from : (k : ℕ) (xs : List A) (p : ℕ) → places_from k test xs ≡ p ∷ [] → (s : ℕ) × (p ≡ k + s) × Only test d xs s
    unfolding places_from
    one-place-from k [] p e = let z : ◌≡◌ {A = ℕ} 0 1 = cc e in absurd (omega arith)
    one-place-from k (x ∷ xs) p e =
        ⊎_elim
        (λ l.
        let same : k ≡ p = cc l.1 in
        let later : places_from (suc k) test xs ≡ [] = cc l.1 in
        (0, omega arith, only_here x xs l.0 (no-places-from (suc k) xs later)))
        (λ r.
        let (s, same, one) = one-place-from (suc k) xs p r.1 in
        (suc s, omega arith, only-later x xs r.0 one))
        (which k x xs e)

    only-from : (k : ℕ) (xs : List A) (p : ℕ) → Only test d xs p → places_from k test xs ≡ (k + p) ∷ []
    only-from k [] p one = absurd (omega (arith, one.here))
    only-from k (x ∷ xs) zero one =
        let later : places_from (suc k) test xs ≡ [] = nowhere-from (suc k) xs (λ s b. one.others (suc s) (suc-le-suc b) (λ z. omega arith)) in
        let same : k ≡ k + 0 = omega arith in
        taken k x xs one.holds ∙ cc
    only-from k (x ∷ xs) (suc p) one =
        let later : Only test d xs p = record { here = le_of_suc-le-suc one.here; holds = one.holds; others = λ s b n. one.others (suc s) (suc-le-suc b) (λ q. n (suc_inj q)) } in
        let same : suc k + p ≡ k + suc p = omega arith in
        skipped k x xs (one.others zero (omega arith) (λ z. omega arith)) ∙ only-from (suc k) xs p later ∙ cc

    -- The places counted from 0: none, or just one.
    pub no-places : (xs : List A) → places_from 0 test xs ≡ [] → Nowhere test d xs
    no-places = no-places-from 0

    pub nowhere-places : (xs : List A) → Nowhere test d xs → places_from 0 test xs ≡ []
    nowhere-places = nowhere-from 0

    pub one_place : (xs : List A) (p : ℕ) → places_from 0 test xs ≡ p ∷ [] → Only test d xs p
    one_place xs p e =
        let (s, same, one) = one-place-from 0 xs p e in
        let place : s ≡ p = omega arith in
        subst (λ (q : ℕ). Only test d xs q) place one

    pub only-place : (xs : List A) (p : ℕ) → Only test d xs p → places_from 0 test xs ≡ p ∷ []
    only-place xs p one = let same : 0 + p ≡ p = omega arith in only-from 0 xs p one ∙ cc

-- Each element is so where each place is.
module _ {ℓ κ} {A : Type ℓ} (P : A → Type κ) (d : A) where
  pub at_each : (xs : List A) → ((k : ℕ) → k < length xs → P (get_or xs k d)) → Each P xs
  at_each [] h = empty
  at_each (x ∷ xs) h = each (h zero (omega arith)) (at_each xs (λ k b. h (suc k) (suc-le-suc b)))
