-- Xor is associative: so is each binary digit, and the digits stand apart.
use mathlib.Core.Path.{◌≡◌, refl, sym, ap₂, ◌∙◌}
use Prim.Native.Nat.{ℕ, zero, suc, ◌+◌, ◌*◌, ◌/◌, ◌%◌, ◌<◌}
use native.Mathlib.Nat.{mod-lt}
use native.Mathlib.Omega.{arith}
use lib.Dec.{lit<}
use lib.Arith.{bin_ind}
use lib.Bits.{bit_xor, differ, xor_step, xor_shr, xor_mod}

data Digit : ℕ → Type 0 where
  is_zero : Digit 0
  is_one : Digit 1

digit : (n : ℕ) → n < 2 → Digit n
digit zero h = is_zero
digit (suc zero) h = is_one
digit (suc (suc n)) h = absurd (omega arith)

last : (n : ℕ) → Digit (n % 2)
last n = digit (n % 2) (mod-lt n (lit< tt))

differ-assoc : {p q r : ℕ} → Digit p → Digit q → Digit r → differ (bit_xor p q) r ≡ differ p (bit_xor q r)
differ-assoc is_zero is_zero r = refl
differ-assoc is_zero is_one is_zero = refl
differ-assoc is_zero is_one is_one = refl
differ-assoc is_one is_zero r = refl
differ-assoc is_one is_one is_zero = refl
differ-assoc is_one is_one is_one = refl

pub xor_assoc : (a b c : ℕ) → bit_xor (bit_xor a b) c ≡ bit_xor a (bit_xor b c)
xor_assoc a =
    bin_ind (λ (n : ℕ). (b c : ℕ) → bit_xor (bit_xor n b) c ≡ bit_xor n (bit_xor b c)) (λ b c. refl)
    (λ n ih b c.
    xor_step (bit_xor n b) c
    ∙ ap₂ (λ (x y : ℕ). bit_xor x (c / 2) * 2 + differ y (c % 2)) (xor_shr n b 1) (xor_mod n b 1)
    ∙ ap₂ (λ (x y : ℕ). x * 2 + y) (ih (b / 2) (c / 2))
    (differ-assoc (last n) (last b) (last c))
    ∙ sym (ap₂ (λ (x y : ℕ). bit_xor (n / 2) x * 2 + differ (n % 2) y) (xor_shr b c 1) (xor_mod b c 1))
    ∙ sym (xor_step n (bit_xor b c))) a
