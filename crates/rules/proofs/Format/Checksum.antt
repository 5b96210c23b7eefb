-- The laws of the checksums: their check values, a byte as one table lookup, and bounds.
-- A lookup stands for eight steps because a step only halves what lies above the low byte, and xor is associative.
use Rattle.std.specs.Prelude.{if◌then◌else◌}
use mathlib.Core.Path.{◌≡◌, refl, sym, ap, ◌∙◌}
use mathlib.Core.Bool.{Bool, true, false}
use mathlib.Core.List.{List, [], ◌∷◌}
use Prim.Native.Nat.{ℕ, zero, suc, ◌+◌, ◌*◌, ◌-◌, ◌/◌, ◌%◌, ◌^◌, ◌≤◌, ◌<◌}
use native.Mathlib.Nat.{mul-one, mod-lt, div-eq_of_lt, lt_of_lt_of_le}
use native.Mathlib.Omega.{arith}
use native.Mathlib.Numerals.{add-one}
use lib.Dec.{ltb, eqb, lit<, lit≤}
use lib.Pow.{pow_mono, split}
use lib.ListN.{length, get_or, drop, drop_of_length-le}
use lib.Seq.{drop-cons}
use lib.Bits.{bit_xor, xor_shr, xor_mod, xor_lt, xor_comm, xor_zero_r, xor_shifted, shifted_half, shifted_even}
use borrow.Author.Tests.{ltb-true}
use Rattle.rules.specs.Notation.{times}
use Rattle.rules.specs.Checksum.{crc, step8, crc8, step32, crc32}
use Rattle.rules.proofs.Basics.Xor.{xor_assoc}

-- ---- the check values

-- "123456789"
abbrev pub check_bytes : List ℕ
check_bytes = 49 ∷ 50 ∷ 51 ∷ 52 ∷ 53 ∷ 54 ∷ 55 ∷ 56 ∷ 57 ∷ []

pub crc8-check : crc8 check_bytes ≡ 0xF4
unfolding crc8 crc step8 times
crc8-check = refl

pub crc32-check : crc32 check_bytes ≡ 0xCBF43926
unfolding crc32 crc step32 times
crc32-check = refl

-- ---- a byte as one lookup

-- a choice whether to xor p in may be made before or after a is xored in
choice-pass : (t : Bool) (a x p : ℕ)
    → (if t then bit_xor a x else bit_xor (bit_xor a x) p) ≡ bit_xor a (if t then x else bit_xor x p)
choice-pass true a x p = refl
choice-pass false a x p = xor_assoc a x p

-- a step halves what lies above its bit
step32-pass : (h n x : ℕ) → step32 (bit_xor (h * 2 ^ suc n) x) ≡ bit_xor (h * 2 ^ n) (step32 x)
unfolding step32
step32-pass h n x =
    rw (xor_mod _ _ 1, xor_shr _ _ 1, shifted_even, shifted_half) (choice-pass (eqb (x % 2) 0) (h * 2 ^ n) (x / 2) _)

times-pass : (n h x : ℕ) → times n step32 (bit_xor (h * 2 ^ n) x) ≡ bit_xor h (times n step32 x)
unfolding times
times-pass zero h x = ap (λ (y : ℕ). bit_xor y x) (mul-one h)
times-pass (suc n) h x = ap (times n step32) (step32-pass h n x) ∙ times-pass n h (step32 x)

-- eight steps of any register are eight steps of its low byte, with the rest passed through
pub step32-low : (x : ℕ) → times 8 step32 x ≡ bit_xor (x / 256) (times 8 step32 (x % 256))
step32-low x =
    ap (times 8 step32) (sym (xor_shifted (x / 256) 8 (x % 256) (mod-lt x (lit< tt)) ∙ split x 8))
    ∙ times-pass 8 (x / 256) (x % 256)

-- so after a byte is xored in, one lookup at the low byte does: `table[(c ^ b) % 256] ^ (c / 256)`
pub step32-byte : (c b : ℕ) → b < 256 → times 8 step32 (bit_xor c b) ≡ bit_xor (times 8 step32 (bit_xor c b % 256)) (c / 256)
step32-byte c b h =
    step32-low (bit_xor c b)
    ∙ ap (λ (x : ℕ). bit_xor x (times 8 step32 (bit_xor c b % 256)))
    (xor_shr c b 8 ∙ ap (bit_xor (c / 256)) (div-eq_of_lt h) ∙ xor_zero_r (c / 256))
    ∙ xor_comm (c / 256) _

-- ---- a CRC from a place of the list on: a byte's eight steps lead to the next place, and the last place to the CRC

pub crc-next : (step : ℕ → ℕ) (c : ℕ) {r : ℕ} (i : ℕ) (bytes : List ℕ) → i < length bytes
    → r ≡ times 8 step (bit_xor c (get_or bytes i 0)) → crc step r (drop (i + 1) bytes) ≡ crc step c (drop i bytes)
unfolding crc
crc-next step c i bytes h e = rw (e, add-one, drop-cons bytes i 0)

pub crc-end : (step : ℕ → ℕ) (c i : ℕ) (bytes : List ℕ) → length bytes ≤ i → crc step c (drop i bytes) ≡ c
unfolding crc
crc-end step c i bytes h = rw (drop_of_length-le bytes h)

-- ---- bounds

times_below : (m : ℕ) (f : ℕ → ℕ) → ((x : ℕ) → x < m → f x < m) → (n x : ℕ) → x < m → times n f x < m
unfolding times
times_below m f keeps zero x h = h
times_below m f keeps (suc n) x h = times_below m f keeps n (f x) (keeps x h)

-- a CRC stays within the bits that its step stays within, if they hold a byte
crc-below : (k : ℕ) → 8 ≤ k → (step : ℕ → ℕ) → ((x : ℕ) → x < 2 ^ k → step x < 2 ^ k)
    → (bytes : List ℕ) → ((i : ℕ) → get_or bytes i 0 < 256) → (c : ℕ) → c < 2 ^ k → crc step c bytes < 2 ^ k
unfolding crc
crc-below k wide step keeps [] bs c h = h
crc-below k wide step keeps (b ∷ bytes) bs c h =
    crc-below k wide step keeps bytes (λ i. bs (suc i)) _
    (times_below (2 ^ k) step keeps 8 (bit_xor c b) (xor_lt k c b h (lt_of_lt_of_le (bs 0) (pow_mono wide))))

if-below : (t : Bool) (m : ℕ) {x y : ℕ} → (t ≡ true → x < m) → (t ≡ false → y < m) → (if t then x else y) < m
if-below true m p q = p refl
if-below false m p q = q refl

step8-below : (c : ℕ) → c < 2 ^ 8 → step8 c < 2 ^ 8
unfolding step8
step8-below c h =
    if-below (ltb c 0x80) (2 ^ 8) (λ t. omega (arith, ltb-true c 0x80 t))
    (λ t. xor_lt 8 (c * 2 - 0x100) _ (omega arith) (lit< tt))

step32-below : (c : ℕ) → c < 2 ^ 32 → step32 c < 2 ^ 32
unfolding step32
step32-below c h =
    if-below (eqb (c % 2) 0) (2 ^ 32) (λ t. omega arith) (λ t. xor_lt 32 (c / 2) _ (omega arith) (lit< tt))

-- so each entry of the CRC-8 table fits a byte
pub entry8-below : (k : ℕ) → k < 2 ^ 8 → times 8 step8 k < 2 ^ 8
entry8-below = times_below (2 ^ 8) step8 step8-below 8

pub crc8-below : (bytes : List ℕ) → ((i : ℕ) → get_or bytes i 0 < 256) → crc8 bytes < 2 ^ 8
unfolding crc8
crc8-below bytes bs = crc-below 8 (lit≤ tt) step8 step8-below bytes bs 0 (lit< tt)

pub crc32-below : (bytes : List ℕ) → ((i : ℕ) → get_or bytes i 0 < 256) → crc32 bytes < 2 ^ 32
unfolding crc32
crc32-below bytes bs =
    xor_lt 32 _ 0xFFFFFFFF (crc-below 32 (lit≤ tt) step32 step32-below bytes bs 0xFFFFFFFF (lit< tt)) (lit< tt)
