-- Demand 3 applied once, to a run of the bench sheet: its premises are met, and what it promises is what the run shows.
use mathlib.Core.Path.{◌≡◌, refl, subst}
use mathlib.Core.List.{List, [], ◌∷◌}
use mathlib.Core.Option.{some}
use Prim.Native.Nat.{ℕ, ◌<◌}
use native.Mathlib.Omega.{arith}
use lib.ListN.{replicate}
use Rattle.rules.specs.Notation.{Each, empty, each}
use Rattle.rules.specs.Meaning.{State, state_of, history, lookup}
use Rattle.rules.specs.Calls.{answer, format_due, answer_numbers, leaves}
use Rattle.rules.specs.Demands.{Call, write, Typed, writes, IsId, IsBudget, AreBytes, IsUser, empty_model, Run, run, views, Matches, Holds, Demand3}
use Rattle.rules.proofs.Computing.{computing}
use Rattle.rules.proofs.Basics.Parts.{each-replicate}
use Rattle.rules.proofs.Crash.Demand3.{demand3}

-- 2 x 128, ID 7 written three times with 8 bytes; the fourth write is cut after 2.
pub bytes : List ℕ
bytes = replicate 256 0

pub eight : ℕ → List ℕ
eight b = replicate 8 b

pub calls : List Call
calls = write 7 (eight 1) 9 ∷ write 7 (eight 2) 9 ∷ write 7 (eight 3) 9 ∷ write 7 (eight 4) 2 ∷ []

pub formatted : Run
formatted = record { image = leaves 128 (format_due 128 2 bytes) 17 bytes; model = empty_model }

-- The premises.
typed-bytes : AreBytes bytes
unfolding AreBytes bytes
typed-bytes = each-replicate 256 0 (omega arith)

typed-write : (b a : ℕ) → b < 256 → a < 10 → Typed (write 7 (eight b) a)
unfolding AreBytes IsId IsBudget eight
typed-write b a small few = writes {id = 7} {a = a} (omega arith) (each-replicate 8 b small) (omega arith)

typed-calls : Each Typed calls
unfolding calls
typed-calls =
    each (typed-write 1 9 (omega arith) (omega arith))
    (each (typed-write 2 9 (omega arith) (omega arith))
    (each (typed-write 3 9 (omega arith) (omega arith))
    (each (typed-write 4 2 (omega arith) (omega arith)) empty)))

format-zero : (answer_numbers (answer (format_due 128 2 bytes) 17)).number ≡ 0
unfolding computing bytes
format-zero = refl

seven : IsUser 7
unfolding IsUser IsId
seven = (omega arith, λ e. omega arith)

-- The book, from the answers alone: the first three writes gave 0, the fourth did not.
model-third : (run 128 2 formatted calls).model 7 ≡ some (eight 3)
unfolding computing bytes eight calls formatted
model-third = refl

holds : Holds 128 2 (run 128 2 formatted calls)
unfolding Demand3 formatted
holds = demand3 128 2 bytes 17 calls typed-bytes typed-calls format-zero

-- So the image is a store, in which ID 7 holds the third value.
pub third-told : (state : State) × (state_of (views 128 2 (run 128 2 formatted calls).image) ≡ some state)
    × Matches (lookup 7 (history state (views 128 2 (run 128 2 formatted calls).image))) (some (eight 3))
third-told = (holds.store.state, holds.store.is, subst (Matches _) model-third (holds.store.matches 7 seven))
