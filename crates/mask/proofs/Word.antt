-- The bits of a word as flags: what setting a bit, the count of ones and the count of trailing zeros do to them.
-- Assumes nothing.
use mathlib.Core.Path.{◌≡◌, refl, sym, ap, ap₂, ◌∙◌}
use mathlib.Core.Bool.{Bool, true}
use mathlib.Core.List.{List, [], ◌∷◌}
use mathlib.Core.Logic.{◌⊎◌, inl, inr, ⊎_elim, by_cases}
use Prim.Native.Nat.{ℕ, zero, suc, ◌+◌, ◌/◌, ◌%◌, ◌^◌, ◌<◌, max}
use native.Mathlib.Nat.{pow-suc}
use native.Mathlib.Decide.{ℕ_discrete}
use native.Mathlib.Omega.{arith}
use lib.Bits.{bit_or, or_step, or_zero_r}
use lib.Count.{ones, ones_step, count_trailing_zeros, under}
use lib.Dec.{eqb}
use lib.ListN.{length, set}
use borrow.Author.Tests.{eq-eqb, ne_eqb}
use Rattle.rules.specs.Notation.{is_empty, places_from}
use Rattle.mask.specs.Flags.{bits_of, is_singleton}
use Rattle.mask.proofs.Laws.{singleton-true, singleton-length}

-- the places of the set bits among the lowest d of n, counted from k
abbrev pub places_in : (k d n : ℕ) → List ℕ
places_in k d n = places_from k (λ (f : Bool). f) (bits_of d n)

-- ---- one bit, and the rest

half_lt : (d n : ℕ) → n < 2 ^ suc d → n / 2 < 2 ^ d
half_lt d n h = omega (arith, pow-suc 2 d)

digit : (n : ℕ) → (n % 2 ≡ 0) ⊎ (n % 2 ≡ 1)
digit n = by_cases (ℕ_discrete (n % 2) 0) inl (λ e. inr (omega arith))

places-even : (k d n : ℕ) → n % 2 ≡ 0 → places_in k (suc d) n ≡ places_in (suc k) d (n / 2)
unfolding places_from bits_of
places-even k d n e = simp (ne_eqb (n % 2) 1 (λ o. omega arith))

places-odd : (k d n : ℕ) → n % 2 ≡ 1 → places_in k (suc d) n ≡ k ∷ places_in (suc k) d (n / 2)
unfolding places_from bits_of
places-odd k d n e = simp (eq-eqb (n % 2) 1 e)

-- ---- a bit is set

or-half : (a b : ℕ) → bit_or a b / 2 ≡ bit_or (a / 2) (b / 2)
or-half a b = omega (arith, or_step a b)

or-digit : (a b : ℕ) → bit_or a b % 2 ≡ max (a % 2) (b % 2)
or-digit a b = omega (arith, or_step a b)

pub set-bit : (k s n : ℕ) → bits_of k (bit_or n (2 ^ s)) ≡ set (bits_of k n) s true
unfolding bits_of
set-bit zero s n = refl
set-bit (suc k) zero n =
    ap₂ (λ (f : Bool) (fs : List Bool). f ∷ fs)
    (eq-eqb (bit_or n 1 % 2) 1 (omega (arith, or-digit n 1)))
    (ap (bits_of k) (or-half n 1 ∙ or_zero_r (n / 2)))
set-bit (suc k) (suc s) n =
    let half : 2 ^ suc s / 2 ≡ 2 ^ s = omega (arith, pow-suc 2 s) in
    let same : bit_or n (2 ^ suc s) % 2 ≡ n % 2 = omega (arith, or-digit n (2 ^ suc s), pow-suc 2 s) in
    ap₂ (λ (f : Bool) (fs : List Bool). f ∷ fs)
    (ap (λ (r : ℕ). eqb r 1) same)
    (ap (bits_of k) (or-half n (2 ^ suc s) ∙ ap (bit_or (n / 2)) half) ∙ set-bit k s (n / 2))

-- ---- the counts

pub ones-places : (k d n : ℕ) → n < 2 ^ d → ones n ≡ length (places_in k d n)
unfolding places_from bits_of ones
ones-places k zero n h = let none : n ≡ 0 = omega arith in ap ones none
ones-places k (suc d) n h =
    let rest : ones (n / 2) ≡ length (places_in (suc k) d (n / 2)) = ones-places (suc k) d (n / 2) (half_lt d n h) in
    ⊎_elim
    (λ e. omega (arith, ones_step n, ap length (places-even k d n e)))
    (λ e. omega (arith, ones_step n, ap length (places-odd k d n e)))
    (digit n)

trailing : (d n : ℕ) {r : ℕ} → n % 2 ≡ r → count_trailing_zeros (suc d) n ≡ under r (count_trailing_zeros d (n / 2))
unfolding count_trailing_zeros
trailing d n e = ap (λ (x : ℕ). under x (count_trailing_zeros d (n / 2))) e

-- the lowest set bit stands above the trailing zeros
pub lowest : (k d n : ℕ) → 0 < n → n < 2 ^ d → (later : List ℕ) × (places_in k d n ≡ (k + count_trailing_zeros d n) ∷ later)
lowest k zero n p h = absurd (omega arith)
lowest k (suc d) n p h =
    ⊎_elim
    (λ e.
    let (later, at) = lowest (suc k) d (n / 2) (omega arith) (half_lt d n h) in
    let place : suc k + count_trailing_zeros d (n / 2) ≡ k + count_trailing_zeros (suc d) n = omega (arith, trailing d n e) in
    (later, places-even k d n e ∙ at ∙ ap (λ (x : ℕ). x ∷ later) place))
    (λ e.
    let later = places_in (suc k) d (n / 2) in
    let place : k ≡ k + count_trailing_zeros (suc d) n = omega (arith, trailing d n e) in
    (later, places-odd k d n e ∙ ap (λ (x : ℕ). x ∷ later) place))
    (digit n)

-- ---- none, one

no-places : (k d : ℕ) → places_in k d 0 ≡ []
unfolding places_from bits_of
no-places k zero = refl
no-places k (suc d) = places-even k d 0 refl ∙ no-places (suc k) d

pub zero-empty : (d n : ℕ) → n < 2 ^ d → eqb n 0 ≡ is_empty (places_in 0 d n)
unfolding is_empty
zero-empty d n h =
    by_cases (ℕ_discrete n 0)
    (λ e. eq-eqb n 0 e ∙ sym (ap (λ (x : ℕ). is_empty (places_in 0 d x)) e ∙ ap is_empty (no-places 0 d)))
    (λ e. ne_eqb n 0 e ∙ sym (ap is_empty (lowest 0 d n (omega arith) h).1))

pub one_single : (d n : ℕ) → n < 2 ^ d → eqb (ones n) 1 ≡ is_singleton (places_in 0 d n)
one_single d n h = ap (λ (x : ℕ). eqb x 1) (ones-places 0 d n h) ∙ singleton-length (places_in 0 d n)

pub single-place : (d n : ℕ) → n < 2 ^ d → is_singleton (places_in 0 d n) ≡ true → places_in 0 d n ≡ count_trailing_zeros d n ∷ []
single-place d n h single =
    let (p, e) = (singleton-true (places_in 0 d n)).0 single in
    by_cases (ℕ_discrete n 0)
    (λ z.
    let none : places_in 0 d n ≡ [] = ap (places_in 0 d) z ∙ no-places 0 d in
    let bad : ◌≡◌ {A = ℕ} 0 1 = cc in absurd (omega arith))
    (λ z.
    let (later, low) = lowest 0 d n (omega arith) h in
    let same : p ≡ 0 + count_trailing_zeros d n = cc in
    e ∙ ap (λ (x : ℕ). x ∷ []) (omega arith))
