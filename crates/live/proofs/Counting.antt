-- The counts of the sectors' entries: that of one sector, how they are made one after the other, and what a turn leaves of them.
-- Assumes nothing.
use mathlib.Core.Path.{◌≡◌, sym, ap, ◌∙◌}
use mathlib.Core.List.{List, []}
use Prim.Native.Nat.{ℕ, ◌<◌, ◌≤◌}
use native.Mathlib.Omega.{arith}
use lib.ListN.{length, get_or, set, length-set}
use lib.Seq.{get_or-set_same, get_or-set_other}
use Rattle.rules.specs.Ground.{max_sectors}
use Rattle.rules.specs.Reading.{View}
use Rattle.rules.specs.Meaning.{view_at}
use Rattle.rules.proofs.Basics.Places.{here-or}
use Rattle.layout.specs.declared.Geometry.{Geometry}
use Rattle.layout.specs.Geometry.{sectors_of}
use Rattle.image.specs.Answer.{views_in}
use Rattle.image.proofs.Sectors.{views-count}
use Rattle.live.specs.declared.counts.EntryCounts.{EntryCounts}
use Rattle.live.specs.Counts.{Counts, count_of, counts_turned}

-- ---- the count of one sector

module _ (g : Geometry) (bytes : List ℕ) (s : ℕ) (inside : s < sectors_of g) where
  pub entries-noted : {counts : EntryCounts} → Counts (views_in g bytes) counts → count_of counts s ≡ length (view_at (views_in g bytes) s).entries
  entries-noted noted = noted.each s (omega (arith, views-count g bytes))

-- ---- one sector after the other

-- The sectors below s are counted.
pub record Counting (views : List View) (counts : List ℕ) (s : ℕ) : Type 0 where
  pub room : length counts ≡ max_sectors
  pub below : (t : ℕ) → t < s → get_or counts t 0 ≡ length (view_at views t).entries

module _ {views : List View} {counts : List ℕ} {s : ℕ} where
  pub counting-end : Counting views counts s → length views ≤ s → Counts views (record { 0 = counts })
  counting-end k past = record { each = λ t h. k.below t (omega arith) }

-- ---- after a turn

-- the sector that was turned to has so many entries, the one after it none, and the others what they had
pub counts-turned : {views after : List View} {counts : EntryCounts} (u o n : ℕ) → length counts.0 ≡ max_sectors → length views ≤ max_sectors → length after ≡ length views
    → n ≡ length (view_at after u).entries → (view_at after o).entries ≡ []
    → ((t : ℕ) → (t ≡ u → ⊥) → (t ≡ o → ⊥) → (view_at after t).entries ≡ (view_at views t).entries)
    → Counts views counts → Counts after (counts_turned counts u o n)
counts-turned {views} {after} {counts} u o n room few same filled unused others known =
    record {
      each = λ t h.
          here-or (λ (x : ℕ). x < length after → get_or (set (set counts.0 u n) o 0) x 0 ≡ length (view_at after x).entries) o t
          (λ here. get_or-set_same (set counts.0 u n) o 0 0 (omega (arith, length-set counts.0 u n)) ∙ sym (ap length unused))
          (λ apart low.
          get_or-set_other (set counts.0 u n) o t 0 0 apart
          ∙ here-or (λ (x : ℕ). (x ≡ o → ⊥) → x < length after → get_or (set counts.0 u n) x 0 ≡ length (view_at after x).entries) u t
          (λ not-o here. get_or-set_same counts.0 u n 0 (omega arith) ∙ filled)
          (λ other not-o below.
          get_or-set_other counts.0 u t n 0 other
          ∙ known.each t (omega (arith, same))
          ∙ ap length (sym (others t other not-o)))
          apart low)
          h;
    }
