-- What a caller learns of a survey, the state by the status; and how small it is what the entries of a sector come to.
-- Assumes nothing.
use mathlib.Core.Path.{◌≡◌, refl, sym, ap, ◌∙◌, subst}
use mathlib.Core.List.{List, []}
use mathlib.Core.Option as rule
use Rattle.std.specs.Prelude.{Option, Some, None, option_map}
use Prim.Native.Nat.{ℕ, ◌<◌}
use native.Mathlib.Omega.{arith}
use lib.ListN.{get_or}
use Rattle.rules.specs.Ground.{Sector, image_of}
use Rattle.rules.specs.Reading.{View, view_of}
use Rattle.rules.specs.Meaning.{State, at_rest, not_reopened, mid_turn, Is, view_at, state_of}
use Rattle.rules.proofs.Blocks.Counting.{Counted, counted}
use Rattle.rules.proofs.Blocks.Formatted.{length-image}
use Rattle.rules.proofs.Blocks.OnImage.{view-at}
use Rattle.rules.proofs.Ring.States.{state-is}
use Rattle.layout.specs.declared.Geometry.{Geometry}
use Rattle.layout.specs.Numbers.{sector_no}
use Rattle.layout.specs.Geometry.{blocks_of, sectors_of}
use Rattle.layout.specs.Options.{option_as}
use Rattle.layout.proofs.Options.{as-some, as-none}
use Rattle.sector.proofs.Laws.{Bounded, entries-bounded}
use Rattle.image.specs.declared.Status.{Status}
use Rattle.image.specs.declared.active.Active.{Active}
use Rattle.image.specs.Answer.{status_of, status_as, active_as, views_in, Carries}
use Rattle.image.proofs.Sectors.{views-count}

-- the state by the status that a survey answers
status-state : (o : rule.Option State) → option_map status_of (status_as o) ≡ option_as o
status-state rule.none = refl
status-state (rule.some (at_rest w)) = refl
status-state (rule.some (not_reopened w)) = refl
status-state (rule.some (mid_turn u)) = refl

pub survey-state : (g : Geometry) (bytes : List ℕ) {r : Option Status} → r ≡ status_as (state_of (views_in g bytes))
    → option_as (state_of (views_in g bytes)) ≡ option_map status_of r
survey-state g bytes told = sym (status-state (state_of (views_in g bytes))) ∙ ap (option_map status_of) (sym told)

-- where it is a store, and where it is none
pub survey-some : (g : Geometry) (bytes : List ℕ) {r : Option Status} {s : Status} → r ≡ status_as (state_of (views_in g bytes)) → r ≡ Some s
    → state_of (views_in g bytes) ≡ rule.some (status_of s)
survey-some g bytes told is = as-some _ (survey-state g bytes told ∙ ap (option_map status_of) is)

pub survey-none : (g : Geometry) (bytes : List ℕ) {r : Option Status} → r ≡ status_as (state_of (views_in g bytes)) → r ≡ None
    → state_of (views_in g bytes) ≡ rule.none
survey-none g bytes told is = as-none _ (survey-state g bytes told ∙ ap (option_map status_of) is)

-- the working sector of an image at rest is one of its sectors
pub rest-inside : (g : Geometry) (bytes : List ℕ) (w : ℕ) → state_of (views_in g bytes) ≡ rule.some (at_rest w) → w < sectors_of g
unfolding Is
rest-inside g bytes w e = omega (arith, (state-is (views_in g bytes) (at_rest w) e).here, views-count g bytes)

-- what holds of the view of any sector holds of those of an image: what its entries come to stays within its blocks
module _ (g : Geometry) (bytes : List ℕ) (s : ℕ) (inside : s < sectors_of g) where
  of-view : (P : View → Type 0) → ((sector : Sector) → P (view_of (blocks_of g) sector)) → P (view_at (views_in g bytes) s)
  of-view P any =
      let im = image_of (blocks_of g) (sectors_of g) bytes in
      subst P (sym (view-at (blocks_of g) im s (omega (arith, length-image (blocks_of g) (sectors_of g) bytes)))) (any (get_or im s []))

  pub scan-bounded : Bounded (blocks_of g) (active_as s (view_at (views_in g bytes) s)).scan
  unfolding view_of
  scan-bounded =
      of-view (λ (v : View). Bounded (blocks_of g) (active_as s v).scan) (λ sector. entries-bounded (blocks_of g) _ sector g.sound.blocks_from g.sound.blocks_to)

  pub entries-counted : Counted (blocks_of g) (view_at (views_in g bytes) s).entries
  unfolding view_of
  entries-counted = of-view (λ (v : View). Counted (blocks_of g) v.entries) (λ sector. counted (blocks_of g) _ sector g.sound.blocks_from)

-- ---- what is carried of a sector

pub carries-at : (g : Geometry) (bytes : List ℕ) (s : ℕ) {active : Active} → s < sectors_of g → active ≡ active_as s (view_at (views_in g bytes) s) → Carries g bytes active
carries-at g bytes s {active} inside told =
    let same : sector_no active.sector ≡ s = ap (λ (x : Active). sector_no x.sector) told in
    record { inside = omega (arith, same); told = told ∙ ap (λ (t : ℕ). active_as t (view_at (views_in g bytes) t)) (sym same) }
