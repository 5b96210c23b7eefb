-- What a mask gives its callers: how the flags grow from sector to sector, and the sectors in the mask as places of a test.
-- Assumes nothing.
use Rattle.std.specs.Prelude.{if◌then◌else◌}
use mathlib.Core.Path.{◌≡◌, refl, sym, ap, ◌∙◌}
use mathlib.Core.Bool.{Bool, true, false, false≢true}
use mathlib.Core.List.{List, [], ◌∷◌, ◌++◌, map, map-append}
use mathlib.Core.Logic.{◌↔◌}
use Prim.Native.Nat.{ℕ, zero, suc, ◌+◌, ◌-◌, ◌≤◌, ◌<◌}
use native.Mathlib.Numerals.{add-one}
use native.Mathlib.Omega.{arith}
use lib.Dec.{eqb}
use lib.ListN.{length, get_or, set, take, replicate, length-append, length-map}
use lib.Seq.{length-take-le, take-suc}
use borrow.Author.Tests.{ne_eqb}
use Rattle.rules.specs.Notation.{is_empty, places_from}
use Rattle.rules.specs.Ground.{max_sectors}
use Rattle.mask.specs.declared.Mask.{Mask}
use Rattle.mask.specs.Flags.{flags_of, sectors_in, is_singleton, padded, Holds}
use Rattle.mask.proofs.Padded.{padded-next, padded-unset}

-- ---- none, one, more

module _ {ℓ} {A : Type ℓ} where
  pub empty-true : (xs : List A) → (is_empty xs ≡ true) ↔ (xs ≡ [])
  unfolding is_empty
  empty-true xs = (go xs, λ e. ap is_empty e)
    where
      go : (xs : List A) → is_empty xs ≡ true → xs ≡ []
      go [] e = refl
      go (x ∷ xs) e = absurd (false≢true e)

  pub singleton-true : (xs : List A) → (is_singleton xs ≡ true) ↔ ((x : A) × (xs ≡ x ∷ []))
  unfolding is_singleton
  singleton-true xs = (go xs, λ e. ap is_singleton e.1)
    where
      go : (xs : List A) → is_singleton xs ≡ true → (x : A) × (xs ≡ x ∷ [])
      go [] e = absurd (false≢true e)
      go (x ∷ []) e = (x, refl)
      go (x ∷ y ∷ xs) e = absurd (false≢true e)

  pub two-or-more : (xs : List A) → is_empty xs ≡ false → is_singleton xs ≡ false → (x : A) × (y : A) × (ys : List A) × (xs ≡ x ∷ y ∷ ys)
  unfolding is_empty is_singleton
  two-or-more [] e o = absurd (false≢true (sym e))
  two-or-more (x ∷ []) e o = absurd (false≢true (sym o))
  two-or-more (x ∷ y ∷ ys) e o = (x, y, ys, refl)

  -- a count decides
  pub singleton-length : (xs : List A) → eqb (length xs) 1 ≡ is_singleton xs
  unfolding is_singleton
  singleton-length [] = refl
  singleton-length (x ∷ []) = refl
  singleton-length (x ∷ y ∷ xs) = ne_eqb (length (x ∷ y ∷ xs)) 1 (λ e. omega arith)

-- ---- the places

-- the places of a test are those of its flags
pub places-map {ℓ} : {A : Type ℓ} (test : A → Bool) (k : ℕ) (xs : List A)
    → places_from k test xs ≡ places_from k (λ (f : Bool). f) (map test xs)
unfolding places_from
places-map test k [] = refl
places-map test k (x ∷ xs) =
    ap (λ (ps : List ℕ). if test x then k ∷ ps else ps) (places-map test (suc k) xs)

-- flags that are not set add no place
places-padded : (k n : ℕ) (flags : List Bool)
    → places_from k (λ (f : Bool). f) (flags ++ replicate n false) ≡ places_from k (λ (f : Bool). f) flags
unfolding places_from
places-padded k zero [] = refl
places-padded k (suc n) [] = places-padded (suc k) n []
places-padded k n (f ∷ fs) =
    ap (λ (ps : List ℕ). if f then k ∷ ps else ps) (places-padded (suc k) n fs)

module _ {m : Mask} {flags : List Bool} (h : Holds m flags) where
  pub held-places : sectors_in m ≡ places_from 0 (λ (f : Bool). f) flags
  unfolding sectors_in padded
  held-places =
      ap (places_from 0 (λ (f : Bool). f)) h.exact ∙ places-padded 0 (max_sectors - length flags) flags

  -- what `is_empty` and `is_one` say of the flags
  pub held-empty : (is_empty (sectors_in m) ≡ true) ↔ (places_from 0 (λ (f : Bool). f) flags ≡ [])
  held-empty = rw held-places (empty-true _)

  pub held_one : (is_singleton (sectors_in m) ≡ true) ↔ ((p : ℕ) × (places_from 0 (λ (f : Bool). f) flags ≡ p ∷ []))
  held_one = rw held-places (singleton-true _)

-- and of what was tested
pub tested-places {ℓ} : {A : Type ℓ} (test : A → Bool) (xs : List A) {m : Mask} → Holds m (map test xs)
    → sectors_in m ≡ places_from 0 test xs
tested-places test xs h = held-places h ∙ sym (places-map test 0 xs)

-- ---- one flag more

pub held_more : {m r : Mask} {flags : List Bool} (f : Bool) → Holds m flags → length flags < max_sectors
    → flags_of r ≡ set (flags_of m) (length flags) f → Holds r (flags ++ (f ∷ []))
held_more {m} {r} {flags} f h room e =
    let longer : length (flags ++ (f ∷ [])) ≡ length flags + 1 = length-append flags (f ∷ []) in
    record {
      few = omega arith;
      exact = e ∙ ap (λ (l : List Bool). set l (length flags) f) h.exact ∙ padded-next max_sectors flags room f;
    }

-- which the mask itself holds, unset
unset-next : {m : Mask} {flags : List Bool} → Holds m flags → length flags < max_sectors
    → flags_of m ≡ set (flags_of m) (length flags) false
unset-next {m} {flags} h room =
    h.exact ∙ padded-unset max_sectors flags room ∙ ap (λ (l : List Bool). set l (length flags) false) (sym h.exact)

-- ---- a survey of elements, upward: after s of them the mask holds the flags of the first s

module _ {ℓ} {A : Type ℓ} (test : A → Bool) (d : A) (xs : List A) (few : length xs ≤ max_sectors) (s : ℕ) (h : s < length xs) where
  flags-length : length (map test (take s xs)) ≡ s
  flags-length = length-map (take s xs) test ∙ length-take-le s xs (omega arith)

  flags-more : map test (take (s + 1) xs) ≡ map test (take s xs) ++ (test (get_or xs s d) ∷ [])
  flags-more = rw (add-one, take-suc xs s d) (map-append test (take s xs) (get_or xs s d ∷ []))

  surveyed : {m r : Mask} (f : Bool) → Holds m (map test (take s xs)) → test (get_or xs s d) ≡ f
      → flags_of r ≡ set (flags_of m) (length (map test (take s xs))) f → Holds r (map test (take (s + 1) xs))
  surveyed {m} {r} f held is e = rw (flags-more, is) (held_more f held (omega (arith, flags-length)) e)

  -- the test holds, and the sector is added
  pub survey-added : {m r : Mask} → Holds m (map test (take s xs)) → test (get_or xs s d) ≡ true
      → flags_of r ≡ set (flags_of m) s true → Holds r (map test (take (s + 1) xs))
  survey-added {m} {r} held is e = surveyed true held is (rw flags-length e)

  -- the test fails, and the mask stays
  pub survey-passed : {m : Mask} → Holds m (map test (take s xs)) → test (get_or xs s d) ≡ false → Holds m (map test (take (s + 1) xs))
  survey-passed {m} held is = surveyed false held is (unset-next held (omega (arith, flags-length)))
