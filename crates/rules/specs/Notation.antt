-- The few words that the definitions are written in, besides those of the library.
use Rattle.std.specs.Prelude.{Bool, true, false, ◌&&◌, ◌||◌, List, [], ◌∷◌, ◌++◌, ℕ, zero, suc, ◌+◌, ◌*◌, ◌/◌, ◌%◌, take, drop, replicate, eqb, cond}
use Rattle.std.proofs.Math.Option.{Option, none, some}

-- a value where the test holds
unfoldable pub when {ℓ} : {A : Type ℓ} → Bool → A → Option A
when true a = some a
when false a = none

-- f applied n times
unfoldable pub times {ℓ} : {A : Type ℓ} → ℕ → (A → A) → A → A
times zero f x = x
times (suc n) f x = times n f (f x)

-- xs cut into n pieces of k elements
unfoldable pub pieces {ℓ} : {A : Type ℓ} → ℕ → ℕ → List A → List (List A)
pieces zero k xs = []
pieces (suc n) k xs = take k xs ∷ pieces n k (drop k xs)

-- the lowest k bytes of a number, little-endian
unfoldable pub bytes_of : ℕ → ℕ → List ℕ
bytes_of zero n = []
bytes_of (suc k) n = n % 256 ∷ bytes_of k (n / 256)

-- the number that bytes hold, little-endian
unfoldable pub number_of : List ℕ → ℕ
number_of [] = 0
number_of (b ∷ bs) = b + 256 * number_of bs

-- n bytes FF
unfoldable pub erased : ℕ → List ℕ
erased n = replicate n 0xFF

-- are these bytes all FF?
unfoldable pub is_erased : List ℕ → Bool
is_erased [] = true
is_erased (b ∷ bs) = eqb b 0xFF && is_erased bs

-- lists one after the other
unfoldable pub concat {ℓ} : {A : Type ℓ} → List (List A) → List A
concat [] = []
concat (x ∷ xs) = x ++ concat xs

unfoldable pub is_empty {ℓ} : {A : Type ℓ} → List A → Bool
is_empty [] = true
is_empty (x ∷ xs) = false

-- does one element, do all elements satisfy the test?
unfoldable pub any {ℓ} : {A : Type ℓ} → (A → Bool) → List A → Bool
any test [] = false
any test (x ∷ xs) = test x || any test xs

unfoldable pub all {ℓ} : {A : Type ℓ} → (A → Bool) → List A → Bool
all test [] = true
all test (x ∷ xs) = test x && all test xs

-- the elements that satisfy it
unfoldable pub select {ℓ} : {A : Type ℓ} → (A → Bool) → List A → List A
select test [] = []
select test (x ∷ xs) = cond (test x) (x ∷ select test xs) (select test xs)

-- and their places, counted from k
unfoldable pub places_from {ℓ} : {A : Type ℓ} → ℕ → (A → Bool) → List A → List ℕ
places_from k test [] = []
places_from k test (x ∷ xs) = cond (test x) (k ∷ places_from (suc k) test xs) (places_from (suc k) test xs)

-- each element is so
pub data Each {ℓ κ} {A : Type ℓ} (P : A → Type κ) : List A → Type (ℓ ⊔ κ) where
  empty : Each P []
  each : {x : A} {xs : List A} → P x → Each P xs → Each P (x ∷ xs)
