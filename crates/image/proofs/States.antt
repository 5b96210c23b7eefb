-- The state by the classes: no working sector, or one, and the unfinished ones; and by whether the spare is unused.
-- Assumes nothing.
use mathlib.Core.Path.{◌≡◌, refl, sym}
use mathlib.Core.Bool.{Bool, true, false, and-false, false≢true}
use mathlib.Core.List.{List, [], ◌∷◌}
use Prim.Native.Nat.{ℕ}
use lib.ListN.{length}
use Rattle.std.specs.Prelude.{None}
use Rattle.std.specs.Bool.{then_some}
use borrow.Author.Tests.{eq-eqb, ne_eqb}
use Rattle.rules.specs.Notation.{is_empty}
use Rattle.rules.specs.Reading.{View}
use Rattle.rules.specs.Meaning.{view_at, next, state_by}
use Rattle.rules.proofs.Basics.Notation.{when_true, when_false}
use Rattle.layout.specs.Numbers.{sector_at}
use Rattle.mask.specs.Flags.{is_singleton}
use Rattle.image.specs.declared.Status.TheVariants.{Rest}
use Rattle.image.specs.Answer.{status_as}

-- none working, and not just one unfinished
pub not-one : (views : List View) (us : List ℕ) → is_singleton us ≡ false → None ≡ status_as (state_by views [] us)
unfolding state_by is_singleton
not-one views [] e = refl
not-one views (u ∷ []) e = absurd (false≢true (sym e))
not-one views (u ∷ u' ∷ us) e = refl

-- one working, and one unfinished
module _ (views : List View) (w u : ℕ) {us : List ℕ} (one : us ≡ u ∷ []) where
  pub not-next : (u ≡ next (length views) w → ⊥) → None ≡ status_as (state_by views (w ∷ []) us)
  unfolding state_by
  not-next other = rw (one, ne_eqb u (next (length views) w) other, when_false)

  -- the next sector: the store is at rest if it is unused
  pub spare-decides : u ≡ next (length views) w → (unused : Bool) → unused ≡ is_empty (view_at views u).entries
      → then_some unused (Rest (sector_at w)) ≡ status_as (state_by views (w ∷ []) us)
  unfolding state_by
  spare-decides follows true e = rw (one, eq-eqb u (next (length views) w) follows, sym e, when_true)
  spare-decides follows false e = rw (one, sym e, and-false, when_false)
