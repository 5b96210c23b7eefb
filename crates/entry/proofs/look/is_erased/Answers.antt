-- `look::is_erased`: each byte answers the closure's test.
-- Assumes nothing.
use Rattle.std.proofs.lemmas.Iterator.{cases_from_all, YieldsList-from_slice}
use Rattle.std.proofs.Common.{rules}
use Rattle.std.specs.Bool.{MatchBool}
use Rattle.std.specs.List.{AllWithin, HoldsAt}
use mathlib.Core.Bool.{Bool, true, false, and-false}
use mathlib.Core.List.{List, [], ◌∷◌}
use mathlib.Core.Path.{◌≡◌, refl, sym}
use Prim.Native.Nat.{ℕ, zero, suc, ◌<◌}
use native.Mathlib.Nat.{le_of_suc-le-suc}
use native.Mathlib.Omega.{arith}
use borrow.Author.Tests.{eq-eqb, ne_eqb, tests}
use lib.Dec.{eqb}
use lib.ListN.{length}
use Rattle.rules.specs.Notation.{is_erased}
use Rattle.entry.proofs.look.is_erased.Goals as goal

abbrev IsFF : ℕ → Type 0
IsFF b = b ≡ 0xFF

abbrev IsOther : ℕ → Type 0
IsOther b = b ≡ 0xFF → ⊥

all-FF : (bytes : List ℕ) → AllWithin IsFF bytes 0 (length bytes) → true ≡ is_erased bytes
unfolding is_erased
all-FF [] each = refl
all-FF (b ∷ bs) each =
    rw (eq-eqb b 0xFF (each 0 0 (omega arith) (omega arith))) (all-FF bs (λ k d l h. each (suc k) d (omega arith) (omega arith)))

one-other : (bytes : List ℕ) (k : ℕ) → k < length bytes → HoldsAt IsOther bytes k → false ≡ is_erased bytes
unfolding is_erased
one-other [] k h other = absurd (omega arith)
one-other (b ∷ bs) zero h other = rw (ne_eqb b 0xFF (other 0))
one-other (b ∷ bs) (suc k) h other = rw (sym (one-other bs k (le_of_suc-le-suc h) other)) (sym (and-false (eqb b 0xFF)))

by-cases : (bytes : List ℕ) (r : Bool)
    → MatchBool r (AllWithin IsFF bytes 0 (length bytes)) ((k : ℕ) × (k < length bytes) × HoldsAt IsOther bytes k)
    → r ≡ is_erased bytes
by-cases bytes true each = all-FF bytes each
by-cases bytes false other = one-other bytes other.0 other.1 other.2

pub returns : goal.returns
returns c =
    by-cases c.args.bytes.now c.all.result
    (cases_from_all _ _ _ IsFF IsOther c.all.ensures.ran (YieldsList-from_slice c.args.bytes.now cc) (λ x q k. search (rules, tests)) (λ x q k. search (rules, tests)))
