-- A sector shows the same while its lead, its close, the blocks that were read and the data in use stay: stores elsewhere
-- do not show.
use mathlib.Core.Path.{◌≡◌, ap, ◌∙◌}
use mathlib.Core.Bool.{Bool}
use mathlib.Core.List.{List, []}
use Prim.Native.Nat.{ℕ, ◌-◌, ◌<◌, ◌≤◌}
use native.Mathlib.Omega.{arith}
use lib.ListN.{get_or, take, set}
use lib.Seq.{take-set-le, get_or-set_other}
use Rattle.rules.specs.Ground.{Block, Sector}
use Rattle.rules.specs.Entry.{cycle_of}
use Rattle.rules.specs.Look.{start, is_lead, is_close, look, is_entry}
use Rattle.rules.specs.Reading.{Entry, view_of, entries_of, after_all, end_block}
use Rattle.rules.proofs.Blocks.Reading.{took-down, took-same, took-entries}
use Rattle.rules.proofs.Blocks.Place.{Reading, reading-of, reading-last}

module _ (B cycle : ℕ) (sector : Sector) (enough : 8 ≤ B) where
  pub entries-same : (other : Sector)
      → ((b : ℕ) → end_block B (entries_of B cycle sector) ≤ b → b < B - 2 → get_or other b [] ≡ get_or sector b [])
      → take (after_all start (entries_of B cycle sector)).data_end other ≡ take (after_all start (entries_of B cycle sector)).data_end sector
      → entries_of B cycle other ≡ entries_of B cycle sector
  unfolding entries_of
  entries-same other blocks contents =
      let all : Reading B cycle sector (B - 2) start (entries_of B cycle sector) = reading-of B cycle sector enough in
      let last : all.last ≡ end_block B (entries_of B cycle sector) = reading-last B cycle sector enough in
      let end : get_or other all.last [] ≡ get_or sector all.last [] = blocks all.last (omega arith) (omega (arith, took-down all.took)) in
      took-entries
      (took-same (λ b low high. blocks b (omega arith) high) contents all.took)
      (ap (λ (block : Block). is_entry (look B cycle (after_all start (entries_of B cycle sector)) block)) end ∙ all.ended)

  -- a store at a block that was not read, did not end the reading, and is no data in use
  pub entries-store : (b : ℕ) (block : Block) → (after_all start (entries_of B cycle sector)).data_end ≤ b
      → (end_block B (entries_of B cycle sector) ≤ b → b < B - 2 → ⊥) → entries_of B cycle (set sector b block) ≡ entries_of B cycle sector
  entries-store b block unused unread =
      entries-same (set sector b block)
      (λ i low high. get_or-set_other sector b i block [] (λ same. unread (omega arith) (omega arith)))
      (take-set-le (after_all start (entries_of B cycle sector)).data_end sector b block unused)

-- What a sector shows, by what its blocks are.
pub view-is : (B cycle : ℕ) (sector : Sector) {led closed : Bool} {es : List Entry}
    → is_lead (get_or sector (B - 1) []) ≡ led → cycle_of (get_or sector (B - 1) []) ≡ cycle → is_close cycle (get_or sector (B - 2) []) ≡ closed
    → entries_of B cycle sector ≡ es → view_of B sector ≡ record { led = led; cycle = cycle; closed = closed; entries = es }
unfolding view_of
view-is B cycle sector is-led has-cycle is-closed has-entries = simp (is-led, has-cycle, is-closed, has-entries)

module _ (B : ℕ) (sector : Sector) (enough : 8 ≤ B) where
  pub view-same : (other : Sector)
      → ((b : ℕ) → end_block B (view_of B sector).entries ≤ b → get_or other b [] ≡ get_or sector b [])
      → take (after_all start (view_of B sector).entries).data_end other ≡ take (after_all start (view_of B sector).entries).data_end sector
      → view_of B other ≡ view_of B sector
  unfolding view_of end_block
  view-same other blocks contents =
      let cycle : ℕ = cycle_of (get_or sector (B - 1) []) in
      let lead : get_or other (B - 1) [] ≡ get_or sector (B - 1) [] = blocks (B - 1) (omega arith) in
      let close : get_or other (B - 2) [] ≡ get_or sector (B - 2) [] = blocks (B - 2) (omega arith) in
      view-is B cycle other (ap is_lead lead) (ap cycle_of lead) (ap (is_close cycle) close)
      (entries-same B cycle sector enough other (λ b low high. blocks b low) contents)
