-- The class of a sector by what it shows.
-- Assumes nothing.
use Rattle.std.specs.Prelude.{Some, None}
use mathlib.Core.Path.{◌≡◌, refl, sym}
use mathlib.Core.Bool.{Bool, true, false}
use mathlib.Core.List.{List, []}
use mathlib.Core.Option.{none, some, some-injective, none-ne-some}
use Prim.Native.Nat.{ℕ, ◌-◌}
use lib.ListN.{get_or}
use Rattle.rules.specs.Notation.{when}
use Rattle.rules.specs.Ground.{Sector}
use Rattle.rules.specs.Entry.{cycle_of}
use Rattle.rules.specs.Look.{is_lead, lead_cycle, is_close}
use Rattle.rules.specs.Reading.{View, view_of, entries_of}
use Rattle.rules.specs.Meaning.{has_done}
use Rattle.layout.specs.Options.{option_as}
use Rattle.layout.proofs.Options.{as-some, as-none}
use Rattle.sector.specs.declared.Class.TheVariants.{Closed, Working, Unfinished}
use Rattle.sector.specs.Answer.{class_as, has_done_among}

-- ---- leads

-- a right lead, with its cycle, and a wrong one
pub right-lead : (block : List ℕ) {cycle : ℕ} → lead_cycle block ≡ some cycle → (is_lead block ≡ true) × (cycle ≡ cycle_of block)
unfolding lead_cycle when
right-lead block {cycle} e = go (is_lead block) refl e
  where
    go : (b : Bool) → is_lead block ≡ b → when b (cycle_of block) ≡ some cycle → (is_lead block ≡ true) × (cycle ≡ cycle_of block)
    go true same e = (same, sym (some-injective _ _ e))
    go false same e = absurd (none-ne-some cycle e)

pub wrong-lead : (block : List ℕ) → lead_cycle block ≡ none → is_lead block ≡ false
unfolding lead_cycle when
wrong-lead block e = go (is_lead block) refl e
  where
    go : (b : Bool) → is_lead block ≡ b → when b (cycle_of block) ≡ none → is_lead block ≡ false
    go true same e = absurd (none-ne-some (cycle_of block) (sym e))
    go false same e = same

-- ---- classes

module _ (view : View) where
  -- without a right lead it has none
  pub no-class : view.led ≡ false → class_as view ≡ None
  unfolding class_as
  no-class wrong = rw wrong

  module _ (led : view.led ≡ true) where
    pub class-closed : view.closed ≡ true → class_as view ≡ Some Closed
    unfolding class_as
    class-closed closed = rw (led, closed)

    module _ (unclosed : view.closed ≡ false) where
      pub class-working : has_done view ≡ true → class_as view ≡ Some Working
      unfolding class_as
      class-working done = simp (led, unclosed, done)

      pub class-unfinished : has_done view ≡ false → class_as view ≡ Some Unfinished
      unfolding class_as
      class-unfinished undone = simp (led, unclosed, undone)

-- ---- what it shows, by what was read

module _ (B : ℕ) (sector : Sector) {lead : List ℕ} (lead-there : lead ≡ get_or sector (B - 1) []) where
  pub shows-no-lead : None ≡ option_as (lead_cycle lead) → (view_of B sector).led ≡ false
  unfolding view_of
  shows-no-lead e = rw lead-there at (wrong-lead lead (as-none _ (sym e)))

  module _ {cycle : ℕ} (led : Some cycle ≡ option_as (lead_cycle lead)) where
    right : (is_lead lead ≡ true) × (cycle ≡ cycle_of lead)
    right = right-lead lead (as-some _ (sym led))

    pub shows-lead : (view_of B sector).led ≡ true
    unfolding view_of
    shows-lead = rw lead-there at right.0

    same-cycle : cycle ≡ cycle_of (get_or sector (B - 1) [])
    same-cycle = rw lead-there at right.1

    pub shows-close : {close : List ℕ} → close ≡ get_or sector (B - 2) [] → {t : Bool} → t ≡ is_close cycle close → (view_of B sector).closed ≡ t
    unfolding view_of
    shows-close there e = sym (rw (there, same-cycle) at e)

    pub shows-done : {t : Bool} → t ≡ has_done_among (entries_of B cycle sector) → has_done (view_of B sector) ≡ t
    unfolding view_of has_done
    shows-done e = sym (rw same-cycle at e)
