-- What the rules answer with their own options, as an `Option` of the code.
use Rattle.std.specs.Prelude.{Option, Some, None}
use Rattle.std.proofs.Math.Option as rule

abbrev pub option_as : {A : Type 0} → rule.Option A → Option A
option_as rule.none = None
option_as (rule.some x) = Some x
