-- `value::passes`: the check by its case.
-- Assumes nothing.
use mathlib.Core.Path.{sym, ap, ◌∙◌}
use Prim.Native.Nat.{ℕ}
use lib.Dec.{eqb}
use Rattle.std.specs.Prelude.{Option}
use Rattle.search.specs.Value.{passes}
use Rattle.search.proofs.value.passes.Goals as goal

pub returns-in-None : goal.returns-in-None
unfolding passes
returns-in-None c = ap (λ (check : Option ℕ). passes check c.args.bytes.now) (sym c.in-None.is)

pub returns-in-Some : goal.returns-in-Some
unfolding passes
returns-in-Some c =
    ap (eqb c.in-Some.crc) c.crc32.ensures
    ∙ ap (λ (check : Option ℕ). passes check c.args.bytes.now) (sym c.in-Some.is)
