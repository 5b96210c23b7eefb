-- A sector reads as one entry more, once the entry stands in the block that ended the reading and the block below is none.
use mathlib.Core.Path.{◌≡◌, ap, ◌∙◌, subst}
use mathlib.Core.Bool.{true, false}
use mathlib.Core.List.{List, [], ◌∷◌, ◌++◌}
use Prim.Native.Nat.{ℕ, suc, ◌+◌, ◌-◌, ◌*◌, ◌^◌, ◌<◌, ◌≤◌}
use native.Mathlib.Omega.{arith}
use lib.ListN.{length, get_or, take, drop}
use Rattle.rules.specs.Ground.{Sector, block_size}
use Rattle.rules.specs.Look.{Scan, start, after, data_of, is_within, entry, look, is_entry}
use Rattle.rules.specs.Reading.{Entry, entries_of, after_all, end_block}
use Rattle.rules.specs.Stores.{entry_block}
use Rattle.rules.proofs.Terms.{IsProper}
use Rattle.rules.proofs.Blocks.Reading.{Took, took-down, took-same, took-snoc, took-entries, after-snoc}
use Rattle.rules.proofs.Blocks.Place.{place-data, place-step, Reading, reading-of, reading-last}
use Rattle.rules.proofs.Blocks.Written.{look-written, entry-written}

-- there is room for it: its data ends below the block under its own
pub added-place : (B cycle : ℕ) (sector : Sector) (e : Entry) → 8 ≤ B → is_within B (after_all start (entries_of B cycle sector)) e.head ≡ true
    → (after_all start (entries_of B cycle sector)).data_end + data_of e.head < end_block B (entries_of B cycle sector)
unfolding after
added-place B cycle sector e enough within =
    omega (arith, place-data (place-step e.head within (reading-of B cycle sector enough).place), reading-last B cycle sector enough)

module _ (B cycle : ℕ) (sector other : Sector) (e : Entry) (enough : 8 ≤ B) (small : B ≤ 4096) where
  pub added-entries : IsProper e → is_within B (after_all start (entries_of B cycle sector)) e.head ≡ true
      → ((b : ℕ) → end_block B (entries_of B cycle sector) < b → get_or other b [] ≡ get_or sector b [])
      → take (after_all start (entries_of B cycle sector)).data_end other ≡ take (after_all start (entries_of B cycle sector)).data_end sector
      → get_or other (end_block B (entries_of B cycle sector)) [] ≡ entry_block cycle (after_all start (entries_of B cycle sector)).data_end e
      → take (data_of e.head) (drop (after_all start (entries_of B cycle sector)).data_end other) ≡ e.blocks
      → is_entry (look B cycle (after (after_all start (entries_of B cycle sector)) e.head) (get_or other (end_block B (entries_of B cycle sector) - 1) [])) ≡ false
      → entries_of B cycle other ≡ entries_of B cycle sector ++ (e ∷ [])
  unfolding entries_of
  added-entries proper within above below here contents ended =
      let es : List Entry = entries_of B cycle sector in
      let scan : Scan = after_all start es in
      let p : ℕ = end_block B es in
      let all : Reading B cycle sector (B - 2) start es = reading-of B cycle sector enough in
      let last : all.last ≡ p = reading-last B cycle sector enough in
      let room : scan.data_end + data_of e.head < p = added-place B cycle sector e enough within in
      let down : suc all.last + length es ≡ B - 2 = took-down all.took in
      let near : scan.data_end * block_size < 2 ^ 32 = omega arith in
      let found : look B cycle scan (get_or other p []) ≡ entry e.head = ap (look B cycle scan) here ∙ look-written B cycle scan proper near within in
      let old : Took B cycle other (B - 2) start es (suc p) = subst (λ (q : ℕ). Took B cycle other (B - 2) start es (suc q)) last (took-same (λ b low high. above b (omega arith)) below all.took) in
      let new : Took B cycle other (B - 2) start (es ++ (e ∷ [])) p = took-snoc old found (entry-written cycle other p scan e here contents) in
      let next : p ≡ suc (p - 1) = omega arith in
      took-entries
      (subst (λ (q : ℕ). Took B cycle other (B - 2) start (es ++ (e ∷ [])) q) next new)
      (ap (λ (x : Scan). is_entry (look B cycle x (get_or other (p - 1) []))) (after-snoc start es e) ∙ ended)
