-- Laws of the notation: choices, little-endian numbers, erased bytes.
use Rattle.std.specs.Prelude.{cond}
use mathlib.Core.Path.{◌≡◌, refl, ap, ◌∙◌}
use mathlib.Core.Bool.{Bool, true, false, ◌&&◌, ◌||◌, true≢false, false≢true}
use mathlib.Core.List.{List, [], ◌∷◌}
use mathlib.Core.Option.{none, some, some-injective, none-ne-some}
use mathlib.Core.Logic.{◌⊎◌, inl, inr, ⊎_elim}
use Prim.Native.Nat.{ℕ, zero, suc, ◌+◌, ◌-◌, ◌*◌, ◌^◌, ◌/◌, ◌<◌, ◌≤◌}
use native.Mathlib.Nat.{pow-suc}
use native.Mathlib.Numerals.{add-one}
use native.Mathlib.Omega.{arith}
use lib.Dec.{eqb}
use lib.ListN.{length, get_or, take, drop, length-replicate, drop_of_length-le}
use lib.Seq.{drop-cons}
use borrow.Author.Tests.{eqb-true}
use Rattle.rules.specs.Notation.{when, bytes_of, number_of, erased, is_erased}

pub both_true : (a b : Bool) → (a && b) ≡ true → (a ≡ true) × (b ≡ true)
both_true true b e = (refl, e)
both_true false b e = absurd (false≢true e)

pub both_false : (a b : Bool) → (a || b) ≡ false → (a ≡ false) × (b ≡ false)
both_false true b e = absurd (true≢false e)
both_false false b e = (refl, e)

-- a test that cannot hold
pub refuted : (b : Bool) → (b ≡ true → ⊥) → b ≡ false
refuted true never = absurd (never refl)
refuted false never = refl

module _ {ℓ} {A : Type ℓ} where
  -- which branch gave z
  pub if-cases : {z : A} (b : Bool) (x y : A) → (cond b x y) ≡ z → ((b ≡ true) × (x ≡ z)) ⊎ ((b ≡ false) × (y ≡ z))
  if-cases true x y e = inl (refl, e)
  if-cases false x y e = inr (refl, e)

  -- and where the other one cannot have
  pub took-else : {z : A} (b : Bool) (x y : A) → (x ≡ z → ⊥) → (cond b x y) ≡ z → (b ≡ false) × (y ≡ z)
  took-else b x y no-x e = ⊎_elim (λ t. absurd (no-x t.1)) (λ t. t) (if-cases b x y e)

  pub took-then : {z : A} (b : Bool) (x y : A) → (y ≡ z → ⊥) → (cond b x y) ≡ z → (b ≡ true) × (x ≡ z)
  took-then b x y no-y e = ⊎_elim (λ t. t) (λ t. absurd (no-y t.1)) (if-cases b x y e)

  pub when_true : (a : A) → when true a ≡ some a
  unfolding when
  when_true a = refl

  pub when_false : (a : A) → when false a ≡ none
  unfolding when
  when_false a = refl

  -- what a test let through
  pub when-some : (b : Bool) (a : A) {x : A} → when b a ≡ some x → (b ≡ true) × (a ≡ x)
  unfolding when
  when-some true a {x} e = (refl, some-injective a x e)
  when-some false a {x} e = absurd (none-ne-some x e)

pub length-bytes_of : (k n : ℕ) → length (bytes_of k n) ≡ k
unfolding bytes_of
length-bytes_of zero n = refl
length-bytes_of (suc k) n = ap suc (length-bytes_of k (n / 256))

-- the bytes of a number hold it again
pub number-bytes : (k n : ℕ) → n < 256 ^ k → number_of (bytes_of k n) ≡ n
unfolding bytes_of number_of
number-bytes zero n h = omega arith
number-bytes (suc k) n h =
    let below : n < 256 ^ k * 256 = rw pow-suc at h in
    let rest : n / 256 < 256 ^ k = omega arith in
    let ih : number_of (bytes_of k (n / 256)) ≡ n / 256 = number-bytes k (n / 256) rest in
    omega arith

pub length-erased : (n : ℕ) → length (erased n) ≡ n
unfolding erased
length-erased n = length-replicate n 0xFF

pub erased-is : (n : ℕ) → is_erased (erased n) ≡ true
unfolding erased is_erased
erased-is zero = refl
erased-is (suc n) = erased-is n

-- bytes are erased exactly where they are so many FF
pub is-erased : (bytes : List ℕ) → is_erased bytes ≡ true → bytes ≡ erased (length bytes)
unfolding erased is_erased
is-erased [] e = refl
is-erased (b ∷ bs) e =
    let (here, rest) = both_true (eqb b 0xFF) (is_erased bs) e in
    ap (λ (x : ℕ). x ∷ bs) (eqb-true b 0xFF here) ∙ ap (λ (l : List ℕ). 0xFF ∷ l) (is-erased bs rest)

-- erased bytes from a place on: the byte there and those after it, and none past the end
pub erased-next : (bytes : List ℕ) (i : ℕ) → i < length bytes
    → is_erased (drop i bytes) ≡ (eqb (get_or bytes i 0) 0xFF && is_erased (drop (i + 1) bytes))
unfolding is_erased
erased-next bytes i h = rw (add-one, drop-cons bytes i 0)

pub erased-end : (bytes : List ℕ) (i : ℕ) → length bytes ≤ i → is_erased (drop i bytes) ≡ true
unfolding is_erased
erased-end bytes i h = rw (drop_of_length-le bytes h)

-- what is left of erased bytes is erased
pub drop-erased : (k n : ℕ) → k ≤ n → drop k (erased n) ≡ erased (n - k)
unfolding erased
drop-erased zero n h = let e : n ≡ n - 0 = omega arith in ap erased e
drop-erased (suc k) zero h = absurd (omega arith)
drop-erased (suc k) (suc n) h =
    let e : n - k ≡ suc n - suc k = omega arith in
    drop-erased k n (omega arith) ∙ ap erased e

-- and so are the first ones
pub take-erased : (k n : ℕ) → k ≤ n → take k (erased n) ≡ erased k
unfolding erased
take-erased zero n h = refl
take-erased (suc k) zero h = absurd (omega arith)
take-erased (suc k) (suc n) h = ap (λ (l : List ℕ). 0xFF ∷ l) (take-erased k n (omega arith))

-- by the two answers of a test
pub by-test {ℓ} : {A : Type ℓ} (b : Bool) → (b ≡ true → A) → (b ≡ false → A) → A
by-test true t f = t refl
by-test false t f = f refl

-- what holds of the branch that is taken holds of the choice
pub if-either {ℓ κ} : {A : Type ℓ} (P : A → Type κ) (b : Bool) {x y : A} → (b ≡ true → P x) → (b ≡ false → P y) → P (cond b x y)
if-either P true px py = px refl
if-either P false px py = py refl
