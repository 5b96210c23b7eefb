-- The invariant for layers above, under one name and otherwise closed: it holds after a format, every call keeps it, it tells
-- each ID's value, and it makes the next mount succeed.
use mathlib.Core.Path.{◌≡◌}
use mathlib.Core.List.{List}
use Prim.Native.Nat.{ℕ}
use Rattle.rules.specs.Notation.{Each}
use Rattle.rules.specs.Calls.{answer, answer_numbers, format_due, leaves}
use Rattle.rules.specs.Demands.{Call, Typed, AreBytes, empty_model, Run, step, run, IsStore, Mounts}
use Rattle.rules.proofs.Crash.Invariant.{Invariant, kept-by-call}
use Rattle.rules.proofs.Crash.Demand3.{kept-by-format, kept-by-run, invariant-holds}

-- an image that nothing but its own calls has changed since its format, and what it holds
pub Safe : (size count : ℕ) → Run → Type 0
Safe size count state = Invariant size count state.image state.model

pub safe-format : (size count : ℕ) (bytes : List ℕ) (a : ℕ) → AreBytes bytes → (answer_numbers (answer (format_due size count bytes) a)).number ≡ 0
    → Safe size count (record { image = leaves size (format_due size count bytes) a bytes; model = empty_model })
unfolding Safe
safe-format size count bytes a typed given = kept-by-format size count bytes a typed given

module _ (size count : ℕ) (state : Run) where
  pub safe-call : (call : Call) → Typed call → Safe size count state → Safe size count (step size count state call)
  unfolding Safe
  safe-call call typed safe = kept-by-call size count state call typed safe

  pub safe-run : (list : List Call) → Each Typed list → Safe size count state → Safe size count (run size count state list)
  unfolding Safe
  safe-run list typed safe = kept-by-run size count list state typed safe

  pub safe-store : Safe size count state → IsStore size count state.image state.model
  unfolding Safe
  safe-store safe = (invariant-holds size count state safe).store

  pub safe-mounts : Safe size count state → Mounts size count state.image state.model
  unfolding Safe
  safe-mounts safe = (invariant-holds size count state safe).mount
