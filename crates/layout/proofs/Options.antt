-- The rules' answer by the code's.
use Rattle.std.specs.Prelude.{Some, None}
use Rattle.std.proofs.Math.Option as rule
use Rattle.std.proofs.lemmas.Option.{none-some, same_Some}
use mathlib.Core.Path.{◌≡◌, refl, sym, ap}
use Rattle.layout.specs.Options.{option_as}

module _ {A : Type 0} where
  pub as-some : (o : rule.Option A) {x : A} → option_as o ≡ Some x → o ≡ rule.some x
  as-some rule.none {x} e = absurd (none-some x e)
  as-some (rule.some y) {x} e = ap (λ (z : A). rule.some z) (same_Some y x e)

  pub as-none : (o : rule.Option A) → option_as o ≡ None → o ≡ rule.none
  as-none rule.none e = refl
  as-none (rule.some x) e = absurd (none-some x (sym e))
