-- Laws of the ring: the successor of a sector, and the sectors in order of age.
use mathlib.Core.Path.{◌≡◌, refl, sym, ap, ◌∙◌}
use mathlib.Core.List.{List, [], ◌∷◌, ◌++◌, tail, append_assoc, append-nil}
use mathlib.Core.Logic.{◌⊎◌, inl, inr, ⊎_elim}
use Prim.Native.Nat.{ℕ, suc, ◌-◌, ◌<◌, ◌≤◌}
use native.Mathlib.Omega.{arith}
use lib.Dec.{eqb}
use lib.ListN.{length, get_or, take, drop, set, length-append, length-take, length-drop, drop_of_length-le}
use lib.Seq.{take-suc, drop-cons, take_all, drop-set-lt, take-set-le}
use borrow.Author.Tests.{eqb-true, eqb-false}
use Rattle.rules.specs.Reading.{View}
use Rattle.rules.specs.Meaning.{no_view, view_at, next, all_but, ending_at}
use Rattle.rules.proofs.Basics.Notation.{if-cases}

-- The successor is 0 behind the last sector, else the number above.
pub next-cases : (S s : ℕ) → ((suc s ≡ S) × (next S s ≡ 0)) ⊎ ((suc s ≡ S → ⊥) × (next S s ≡ suc s))
unfolding next
next-cases S s =
    ⊎_elim
    (λ l. inl (eqb-true (suc s) S l.0, sym l.1))
    (λ r. inr (eqb-false (suc s) S r.0, sym r.1))
    (if-cases (eqb (suc s) S) 0 (suc s) refl)

pub next-lt : (S s : ℕ) → s < S → next S s < S
next-lt S s h = ⊎_elim (λ l. omega arith) (λ r. omega arith) (next-cases S s)

pub next-ne : (S s : ℕ) → 2 ≤ S → next S s ≡ s → ⊥
next-ne S s two e = ⊎_elim (λ l. omega arith) (λ r. omega arith) (next-cases S s)

module _ {ℓ} {A : Type ℓ} where
  -- what an element is makes no difference to all others
  pub all_but-set : (u : ℕ) (xs : List A) (x : A) → all_but u (set xs u x) ≡ all_but u xs
  unfolding all_but
  all_but-set u xs x =
      let behind : drop (suc u) (set xs u x) ≡ drop (suc u) xs = drop-set-lt (suc u) xs u x (omega arith) in
      let before : take u (set xs u x) ≡ take u xs = take-set-le u xs u x (omega arith) in
      simp (behind, before)

  pub length-all_but : (u : ℕ) (xs : List A) → u < length xs → length (all_but u xs) ≡ length xs - 1
  unfolding all_but
  length-all_but u xs h = simp (length-append, length-drop, length-take) (omega arith)

  -- all of them end in the one that they end at, and begin with its successor
  module _ (d : A) (u : ℕ) (xs : List A) (here : u < length xs) where
    ends_with : ending_at u xs ≡ all_but u xs ++ (get_or xs u d ∷ [])
    unfolding ending_at all_but
    ends_with = simp (take-suc xs u d here, append_assoc)

    begins-with : ending_at u xs ≡ get_or xs (next (length xs) u) d ∷ all_but (next (length xs) u) xs
    unfolding ending_at all_but
    begins-with =
        ⊎_elim
        (λ l.
        let last : suc u ≡ length xs = l.0 in
        let nothing : drop (suc u) xs ≡ [] = drop_of_length-le xs {i = suc u} (omega arith) in
        let whole : take (suc u) xs ≡ xs = take_all (suc u) xs (omega arith) in
        simp (l.1, nothing, whole, append-nil) (drop-cons xs 0 d (omega arith)))
        (λ r.
        let more : suc u ≡ length xs → ⊥ = r.0 in
        let first : drop (suc u) xs ≡ get_or xs (suc u) d ∷ drop (suc (suc u)) xs = drop-cons xs (suc u) d (omega arith) in
        simp (r.1, first))
        (next-cases (length xs) u)

-- The same of views: the successor is the oldest, and u itself the newest.
module _ (u : ℕ) (views : List View) (here : u < length views) where
  pub ending-last : ending_at u views ≡ all_but u views ++ (view_at views u ∷ [])
  unfolding view_at
  ending-last = ends_with no_view u views here

  pub ending-first : ending_at u views ≡ view_at views (next (length views) u) ∷ all_but (next (length views) u) views
  unfolding view_at
  ending-first = begins-with no_view u views here

-- all sectors but one and its successor, oldest first
unfoldable pub all_but_two : ℕ → List View → List View
all_but_two u views = tail (all_but u views)

-- The successor of u is the oldest of all but u; of all but the successor, u is the newest.
pub record Ring (u : ℕ) (views : List View) : Type 0 where
  pub oldest : all_but u views ≡ view_at views (next (length views) u) ∷ all_but_two u views
  pub newest : all_but (next (length views) u) views ≡ all_but_two u views ++ (view_at views u ∷ [])

pub ring : (u : ℕ) (views : List View) → u < length views → 2 ≤ length views → Ring u views
unfolding all_but_two
ring u views here two = go (all_but u views) refl
  where
    go : (vs : List View) → all_but u views ≡ vs → Ring u views
    go [] e = absurd (omega (arith, length-all_but u views here, ap length e))
    go (v ∷ vs) e =
        let rest : tail (all_but u views) ≡ vs = ap tail e in
        let both : view_at views (next (length views) u) ∷ all_but (next (length views) u) views ≡ v ∷ (vs ++ (view_at views u ∷ []))
        = sym (ending-first u views here) ∙ ending-last u views here ∙ ap (λ (l : List View). l ++ (view_at views u ∷ [])) e in
        let first : view_at views (next (length views) u) ≡ v = cc in
        let others : all_but (next (length views) u) views ≡ vs ++ (view_at views u ∷ []) = cc in
        record { oldest = simp (first, e); newest = simp (rest, others) }
