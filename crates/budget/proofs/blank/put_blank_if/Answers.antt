-- `blank::put_blank_if`: a blank by the test.
-- Assumes nothing.
use mathlib.Core.Path.{◌≡◌, ap}
use mathlib.Core.Bool.{Bool, true, false}
use mathlib.Core.List.{[], ◌∷◌}
use Prim.Native.Nat.{ℕ}
use Rattle.rules.specs.Stores.{blank_store, blank_if}
use Rattle.layout.specs.Numbers.{sector_no, block_no}
use Rattle.budget.proofs.Laws.{did_none}
use Rattle.budget.proofs.blank.put_blank_if.Goals as goal

-- the stores by the test
one : (test : Bool) (s b : ℕ) → test ≡ true → blank_if test s b ≡ blank_store s b ∷ []
unfolding blank_if
one test s b holds = ap (λ (t : Bool). blank_if t s b) holds

none : (test : Bool) (s b : ℕ) → test ≡ false → blank_if test s b ≡ []
unfolding blank_if
none test s b fails = ap (λ (t : Bool). blank_if t s b) fails

pub returns-then-test : goal.returns-then-test
returns-then-test c =
    rw (one c.args.test (sector_no c.args.s) (block_no c.args.b) c.if-test.true) c.put_blank.ensures

pub returns : goal.returns
returns c =
    rw (none c.args.test (sector_no c.args.s) (block_no c.args.b) c.if-test.false) (did_none _ _)
