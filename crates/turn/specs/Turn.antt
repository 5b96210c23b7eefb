-- What the steps of a turn leave where they were not cut.
use Rattle.std.specs.Prelude.{◌≡◌, true, List, [], ℕ, Result, IfOk}
use Rattle.std.proofs.Math.Option.{Option, none, some}
use Rattle.rules.specs.Look.{done, is_within}
use Rattle.rules.specs.Meaning.{State, view_at, next}
use Rattle.rules.specs.Stores.{Store, Plan, nothing, mount}
use Rattle.layout.specs.Geometry.{blocks_of, sectors_of}
use Rattle.entry.specs.Answer.{scan_of}
use Rattle.image.specs.declared.active.Active.{Active}
use Rattle.image.specs.Answer.{active_as}
use Rattle.budget.specs.declared.Cut.{Cut}
use Rattle.budget.specs.declared.Writer.{Writer}
use Rattle.budget.specs.Budget.{shown, Did}

-- Copies went to sector u: what is carried is that of u, which has no done yet; the other sectors show what they did.
pub record Gathered (u : ℕ) (before after : Writer) (active : Active) : Type 0 where
  pub told : active ≡ active_as u (view_at (shown after) u)
  pub room : is_within (blocks_of before.geometry) (scan_of active.scan) done ≡ true
  pub others : (t : ℕ) → (t ≡ u → ⊥) → view_at (shown after) t ≡ view_at (shown before) t

-- Made whole, a turn to sector u leaves this: what is carried is that of u, the sector after u has no entries, and every other
-- sector has those that it had.
pub record Moved (u : ℕ) (before after : Writer) (active : Active) : Type 0 where
  pub told : active ≡ active_as u (view_at (shown after) u)
  pub unused : (view_at (shown after) (next (sectors_of before.geometry) u)).entries ≡ []
  pub others : (t : ℕ) → (t ≡ u → ⊥) → (t ≡ next (sectors_of before.geometry) u → ⊥)
      → (view_at (shown after) t).entries ≡ (view_at (shown before) t).entries

-- A turn to sector u, or the rest of one, that is due these stores did those that the budget allows, and answers what is carried
-- then where that is all of them.
pub record Turned (u : ℕ) (before : Writer) (stores : List Store) (after : Writer) (r : Result Active Cut) : Type 0 where
  pub did : Did before stores after r
  pub moved : IfOk r (λ active. Moved u before after active)

-- the mount of what is a store, in its state; where there is none, nothing
abbrev pub mount_stores : (B S : ℕ) → Option State → Plan
mount_stores B S none = nothing
mount_stores B S (some state) = mount B S state
