-- The number that bytes hold, read byte by byte where they lie. The law goes by the number of bytes, so it serves every width.
-- Assumes nothing.
use mathlib.Core.Path.{◌≡◌}
use mathlib.Core.List.{List}
use Prim.Native.Nat.{ℕ, suc, ◌+◌, ◌*◌, ◌<◌}
use native.Mathlib.Nat.{add-zero}
use lib.ListN.{length, get_or, take, drop}
use lib.Seq.{drop-cons}
use Rattle.rules.specs.Notation.{number_of}

-- the first of the bytes, at i, is the lowest; the others begin at j
pub number_more : (xs : List ℕ) (i j n : ℕ) → j ≡ suc i → i < length xs
    → number_of (take (suc n) (drop i xs)) ≡ get_or xs i 0 + 256 * number_of (take n (drop j xs))
unfolding number_of
number_more xs i j n e h = rw (e, drop-cons xs i 0)

-- one byte is its own number
pub number-one : (xs : List ℕ) (i : ℕ) → i < length xs → number_of (take 1 (drop i xs)) ≡ get_or xs i 0
unfolding number_of
number-one xs i h = rw (drop-cons xs i 0) (add-zero (get_or xs i 0))
