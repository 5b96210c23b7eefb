-- The library's bytes of a number are those of the rules.
use Rattle.std.specs.Int.{to_le_bytes}
use mathlib.Core.Path.{◌≡◌, refl}
use mathlib.Core.List.{[], ◌∷◌}
use mir.Syntax.{w16, w32}
use Prim.Native.Nat.{ℕ, ◌/◌, ◌%◌}
use native.Mathlib.Omega.{arith}
use Rattle.rules.specs.Notation.{bytes_of}

pub two-bytes : (n : ℕ) → to_le_bytes w16 n ≡ bytes_of 2 n
unfolding bytes_of
two-bytes n = refl

pub four-bytes : (n : ℕ) → to_le_bytes w32 n ≡ bytes_of 4 n
unfolding bytes_of
four-bytes n =
    let third : n / 65536 ≡ n / 256 / 256 = omega arith in
    let fourth : n / 16777216 ≡ n / 256 / 256 / 256 = omega arith in
    (λ i. n % 256 ∷ n / 256 % 256 ∷ (third i % 256) ∷ (fourth i % 256) ∷ [])
