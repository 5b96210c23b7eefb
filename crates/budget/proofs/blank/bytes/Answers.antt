-- `blank::bytes` are sixteen bytes FF.
-- Assumes nothing.
use mathlib.Core.Path.{refl}
use Rattle.rules.specs.Notation.{erased}
use Rattle.rules.specs.Ground.{blank_block}
use Rattle.budget.proofs.blank.bytes.Goals as goal

pub returns : goal.returns
unfolding blank_block erased
returns c = refl
