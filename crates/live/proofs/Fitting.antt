-- The least number of turns under way: by the open sector's entries, then by one sector after the other behind the spare.
-- Assumes nothing.
use mathlib.Core.Path.{◌≡◌, sym, ap, subst, ◌∙◌}
use mathlib.Core.List.{List}
use mathlib.Core.Logic.{by_cases}
use mathlib.Core.Option.{none, some}
use Prim.Native.Nat.{ℕ, zero, suc, ◌+◌, ◌-◌, ◌<◌, ◌≤◌}
use native.Mathlib.Decide.{dec_lt}
use native.Mathlib.Omega.{arith}
use lib.ListN.{length, get_or}
use Rattle.rules.specs.Meaning.{view_at, next, ring_sector, live_in, needs_of}
use Rattle.rules.specs.Stores.{least_turns}
use Rattle.rules.proofs.Ring.Order.{next-lt}
use Rattle.rules.proofs.Ring.Newest.{ring-first, ring-up, ring-other}
use Rattle.rules.proofs.Ring.Fits.{open_needs, length-counting, needs-after, least-turns, no-turns}
use Rattle.layout.specs.declared.Geometry.{Geometry}
use Rattle.layout.specs.Geometry.{blocks_of, sectors_of}
use Rattle.image.specs.Answer.{views_in}
use Rattle.image.proofs.Sectors.{views-count}
use Rattle.live.proofs.LiveNeeds.{needs-few}

-- It does not fit after fewer than t turns; s is the sector before the one that turn t copies from, at first the spare.
pub record Fitting (need limit : ℕ) (g : Geometry) (bytes : List ℕ) (w t s : ℕ) : Type 0 where
  pub from : 1 ≤ t
  pub inside : s < sectors_of g
  pub at : t < sectors_of g → next (sectors_of g) s ≡ ring_sector (sectors_of g) (next (sectors_of g) w) (t - 1)
  pub above : (i : ℕ) → i < t → limit < get_or (open_needs w (views_in g bytes)) i 0 + need

module _ (g : Geometry) (bytes : List ℕ) (w : ℕ) (here : w < sectors_of g) where
  spare-inside : next (sectors_of g) w < sectors_of g
  spare-inside = next-lt (sectors_of g) w here

  working : w < length (views_in g bytes)
  working = omega (arith, views-count g bytes)

  -- with none it does not fit
  pub fitting-start : (need limit : ℕ) → limit < needs_of (view_at (views_in g bytes) w).entries + need → {s : ℕ} → s ≡ next (sectors_of g) w
      → Fitting need limit g bytes w 1 s
  fitting-start need limit full {s} spare =
      record {
        from = omega arith;
        inside = rw spare spare-inside;
        at = λ h. ap (next (sectors_of g)) spare ∙ sym (ring-first (sectors_of g) (next (sectors_of g) w) spare-inside);
        above = first;
      }
    where
      first : (i : ℕ) → i < 1 → limit < get_or (open_needs w (views_in g bytes)) i 0 + need
      first zero b = full
      first (suc i) b = absurd (omega arith)

  -- ---- with one turn more

  module _ {need limit t s : ℕ} (k : Fitting need limit g bytes w t s) where
    module _ (more : t < sectors_of g) {s' : ℕ} (after : s' ≡ next (sectors_of g) s) where
      place : s' ≡ ring_sector (sectors_of g) (next (sectors_of g) w) (t - 1)
      place = after ∙ k.at more

      -- the sector that is looked at is one that counts
      pub looked-inside : s' < sectors_of g
      looked-inside = rw after (next-lt (sectors_of g) s k.inside)

      pub looked-other : s' ≡ next (sectors_of g) w → ⊥
      looked-other spare = ring-other (sectors_of g) (next (sectors_of g) w) spare-inside (t - 1) (omega (arith, k.from)) (sym place ∙ spare)

      -- its live needs are those of the open sector after t turns
      pub looked-few : needs_of (live_in (next (sectors_of g) w) s' (views_in g bytes)) ≤ blocks_of g
      looked-few = needs-few g bytes (next (sectors_of g) w) s' looked-inside

      looked-needs : get_or (open_needs w (views_in g bytes)) t 0 ≡ needs_of (live_in (next (sectors_of g) w) s' (views_in g bytes))
      looked-needs =
          let above : t ≡ suc (t - 1) = omega (arith, k.from) in
          ap (λ (n : ℕ). get_or (open_needs w (views_in g bytes)) n 0) above
          ∙ needs-after w (views_in g bytes) working (t - 1) (omega (arith, k.from, views-count g bytes))
          ∙ ap (λ (n : ℕ). needs_of (live_in (next n w) (ring_sector n (next n w) (t - 1)) (views_in g bytes))) (views-count g bytes)
          ∙ ap (λ (n : ℕ). needs_of (live_in (next (sectors_of g) w) n (views_in g bytes))) (sym place)

      pub fitting-found : needs_of (live_in (next (sectors_of g) w) s' (views_in g bytes)) + need ≤ limit → least_turns need limit w (views_in g bytes) ≡ some t
      fitting-found room =
          least-turns need limit w (views_in g bytes) t
          (record { within = omega (arith, length-counting w (views_in g bytes) working, views-count g bytes); fits = rw looked-needs room; least = k.above })

      pub fitting-next : limit < needs_of (live_in (next (sectors_of g) w) s' (views_in g bytes)) + need → Fitting need limit g bytes w (t + 1) s'
      fitting-next full = record { from = omega arith; inside = looked-inside; at = up; above = above }
        where
          up : t + 1 < sectors_of g → next (sectors_of g) s' ≡ ring_sector (sectors_of g) (next (sectors_of g) w) (t + 1 - 1)
          up h =
              let same : suc (t - 1) ≡ t + 1 - 1 = omega (arith, k.from) in
              ap (next (sectors_of g)) place
              ∙ ring-up (sectors_of g) (next (sectors_of g) w) spare-inside (t - 1) (omega (arith, k.from))
              ∙ ap (ring_sector (sectors_of g) (next (sectors_of g) w)) same

          above : (i : ℕ) → i < t + 1 → limit < get_or (open_needs w (views_in g bytes)) i 0 + need
          above i b =
              by_cases (dec_lt i t) (k.above i)
              (λ not-below.
              let same : t ≡ i = omega arith in
              subst (λ (n : ℕ). limit < get_or (open_needs w (views_in g bytes)) n 0 + need) same (rw looked-needs full))

    pub fitting-end : sectors_of g ≤ t → least_turns need limit w (views_in g bytes) ≡ none
    fitting-end past =
        no-turns need limit w (views_in g bytes)
        (λ i few. k.above i (omega (arith, length-counting w (views_in g bytes) working, views-count g bytes)))
