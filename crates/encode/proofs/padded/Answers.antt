-- `padded`: of eight bytes FF, the first ones are the value's.
-- Assumes nothing.
use mathlib.Core.Path.{ap, ◌∙◌}
use mathlib.Core.List.{List, ◌++◌}
use Prim.Native.Nat.{ℕ}
use native.Mathlib.Omega.{arith}
use lib.ListN.{length, drop}
use Rattle.rules.specs.Notation.{erased}
use Rattle.rules.proofs.Basics.Notation.{drop-erased}
use Rattle.encode.proofs.padded.Goals as goal

pub returns : goal.returns
unfolding erased
returns c =
    let value : List ℕ = c.args.value.now in
    ap (λ (front : List ℕ). front ++ drop (length value) (erased 8)) c.copy_from_slice.ensures.after
    ∙ ap (λ (rest : List ℕ). value ++ rest) (drop-erased (length value) 8 (omega arith))
