-- What the sectors show after a format: a first one with a done, a spare, closed ones; so the store is at rest and tells
-- nothing.
use mathlib.Core.Path.{◌≡◌, refl, ap, ◌∙◌}
use mathlib.Core.Bool.{Bool, true, false, ◌&&◌}
use mathlib.Core.List.{List, [], ◌∷◌, ◌++◌, map}
use mathlib.Core.Option.{none, some}
use Prim.Native.Nat.{ℕ, zero, suc, ◌+◌, ◌-◌, ◌<◌, ◌≤◌}
use native.Mathlib.Omega.{arith}
use lib.Dec.{leb, eqb}
use lib.ListN.{length, get_or, replicate}
use borrow.Author.Tests.{leb-true, eq-eqb, ne_eqb, le-leb, eqb-true}
use Rattle.rules.specs.Notation.{all, places_from, is_empty}
use Rattle.rules.specs.Ground.{Sector, blank_block}
use Rattle.rules.specs.Entry.{cycle_of, lead_block, close_block, done_block}
use Rattle.rules.specs.Look as look
use Rattle.rules.specs.Look.{Scan, is_lead, is_close, start, after, is_within, judge, Verdict, entry, blank, other_cycle, wrong_check, wrong_form, over_limit}
use Rattle.rules.specs.Reading.{Entry, View, entry_at, entries_below, entries_of, view_of}
use Rattle.rules.specs.Meaning.{at_rest, views_of, is_working, is_unfinished, next, view_at, state_by, state_of, all_but, counting, entries_in, history, lookup}
use Rattle.rules.specs.Stores.{blank_store, done_entry, final_store}
use Rattle.rules.proofs.Basics.Notation.{when_true, both_true, refuted}
use Rattle.rules.proofs.Format.Look.{blank-no-entry, blank-no-close}
use Rattle.rules.proofs.Format.Built.{look-done, close-built}
use Rattle.rules.proofs.Computing.{computing}
use Rattle.rules.proofs.Blocks.Formatted.{final_bytes, final_image, final-at}

pub lead-shows : (is_lead (lead_block 1) ≡ true) × (cycle_of (lead_block 1) ≡ 1)
unfolding computing
lead-shows = (refl, refl)

-- a reading goes on by the verdict on its next block
module _ (B cycle : ℕ) (sector : Sector) (p : ℕ) (scan : Scan) where
  unfoldable pub goes_on : Verdict → List Entry
  goes_on (entry head) = entry_at sector p scan head ∷ entries_below B cycle sector p (after scan head)
  goes_on blank = []
  goes_on other_cycle = []
  goes_on wrong_check = []
  goes_on wrong_form = []
  goes_on over_limit = []

  pub reading_step : {v : Verdict} → look.look B cycle scan (get_or sector p []) ≡ v → entries_below B cycle sector (suc p) scan ≡ goes_on v
  unfolding entries_below goes_on
  reading_step e = ap goes_on e

  pub reading-ends : get_or sector p [] ≡ blank_block → entries_below B cycle sector (suc p) scan ≡ []
  unfolding goes_on
  reading-ends e = reading_step (ap (look.look B cycle scan) e ∙ blank-no-entry B cycle scan)

  pub reading-done : scan.done ≡ false → get_or sector p [] ≡ done_block cycle
      → entries_below B cycle sector (suc p) scan ≡ entry_at sector p scan look.done ∷ entries_below B cycle sector p (after scan look.done)
  unfolding goes_on judge is_within
  reading-done first e =
      let counts : judge B scan (some look.done) ≡ entry look.done = simp first in
      reading_step (ap (look.look B cycle scan) e ∙ look-done B cycle scan ∙ counts)

-- what the final bytes show, by the blocks that are looked at
module _ (B s : ℕ) (enough : 8 ≤ B) where
  at-lead : get_or (final_bytes B s 0 B) (B - 1) [] ≡ lead_block 1
  unfolding final_store
  at-lead = final-at B s 0 B (B - 1) (omega arith) ∙ simp (eq-eqb (0 + (B - 1)) (B - 1) (omega arith))

  pub at-close : 2 ≤ s → get_or (final_bytes B s 0 B) (B - 2) [] ≡ close_block 1
  unfolding final_store
  at-close h =
      final-at B s 0 B (B - 2) (omega arith)
      ∙ simp (ne_eqb (0 + (B - 2)) (B - 1) (omega arith), eq-eqb (0 + (B - 2)) (B - 2) (omega arith), le-leb 2 s h)

  pub at_done : s ≡ 0 → get_or (final_bytes B s 0 B) (B - 3) [] ≡ done_block 1
  unfolding final_store
  at_done h =
      final-at B s 0 B (B - 3) (omega arith)
      ∙ simp (ne_eqb (0 + (B - 3)) (B - 1) (omega arith), ne_eqb (0 + (B - 3)) (B - 2) (omega arith), eq-eqb (0 + (B - 3)) (B - 3) (omega arith), eq-eqb s 0 h)

  pub at_other : (b : ℕ) → b < B - 1 → (b ≡ B - 2 → 2 ≤ s → ⊥) → (b ≡ B - 3 → s ≡ 0 → ⊥) → get_or (final_bytes B s 0 B) b [] ≡ blank_block
  unfolding final_store blank_store
  at_other b h no-close no-done =
      final-at B s 0 B b (omega arith)
      ∙ ap (λ (n : ℕ). (final_store B s n).bytes) {x = 0 + b} {y = b} (omega arith)
      ∙ simp (ne_eqb b (B - 1) (omega arith), not-both b (B - 2) (leb 2 s) (λ e t. no-close e (leb-true 2 s t)), not-both b (B - 3) (eqb s 0) (λ e t. no-done e (eqb-true s 0 t)))
    where
      not-both : (x y : ℕ) (t : Bool) → (x ≡ y → t ≡ true → ⊥) → (eqb x y && t) ≡ false
      not-both x y t n = refuted (eqb x y && t) (λ e. let (l, r) = both_true (eqb x y) t e in n (eqb-true x y l) r)

  shows : {closed : Bool} {entries : List Entry} → is_close 1 (get_or (final_bytes B s 0 B) (B - 2) []) ≡ closed → entries_of B 1 (final_bytes B s 0 B) ≡ entries
      → view_of B (final_bytes B s 0 B) ≡ record { led = true; cycle = 1; closed = closed; entries = entries }
  unfolding view_of
  shows c e = simp (at-lead, lead-shows.0, lead-shows.1, c, e)

-- The three kinds of sector.
abbrev pub first_view : View
first_view = record { led = true; cycle = 1; closed = false; entries = done_entry ∷ [] }

abbrev pub empty_view : (closed : Bool) → View
empty_view closed = record { led = true; cycle = 1; closed = closed; entries = [] }

abbrev pub fresh_views : (n : ℕ) → List View
fresh_views n = first_view ∷ empty_view false ∷ replicate n (empty_view true)

pub done-entry : (sector : Sector) (p : ℕ) → get_or sector p [] ≡ done_block 1 → entry_at sector p start look.done ≡ done_entry
unfolding entry_at computing
done-entry sector p e = simp e

module _ (B : ℕ) (enough : 8 ≤ B) where
  first_block : B - 2 ≡ suc (B - 3)
  first_block = omega arith

  view_first : view_of B (final_bytes B 0 0 B) ≡ first_view
  unfolding entries_of start
  view_first =
      let sector : Sector = final_bytes B 0 0 B in
      let below : B - 3 ≡ suc (B - 4) = omega arith in
      let is-done : get_or sector (B - 3) [] ≡ done_block 1 = at_done B 0 enough refl in
      let ends : entries_below B 1 sector (B - 3) (after start look.done) ≡ [] =
      ap (λ (p : ℕ). entries_below B 1 sector p (after start look.done)) below
      ∙ reading-ends B 1 sector (B - 4) (after start look.done) (at_other B 0 enough (B - 4) (omega arith) (omega arith) (omega arith)) in
      shows B 0 enough
      (ap (is_close 1) (at_other B 0 enough (B - 2) (omega arith) (omega arith) (omega arith)) ∙ blank-no-close 1)
      (ap (λ (p : ℕ). entries_below B 1 sector p start) first_block
      ∙ reading-done B 1 sector (B - 3) start refl is-done
      ∙ ap (λ (l : List Entry). entry_at sector (B - 3) start look.done ∷ l) ends
      ∙ ap (λ (e : Entry). e ∷ []) (done-entry sector (B - 3) is-done))

  -- a later sector has no entries
  no-entries : (s : ℕ) → 1 ≤ s → entries_of B 1 (final_bytes B s 0 B) ≡ []
  unfolding entries_of
  no-entries s h =
      ap (λ (p : ℕ). entries_below B 1 (final_bytes B s 0 B) p start) first_block
      ∙ reading-ends B 1 (final_bytes B s 0 B) (B - 3) start (at_other B s enough (B - 3) (omega arith) (omega arith) (omega arith))

  view-spare : view_of B (final_bytes B 1 0 B) ≡ empty_view false
  view-spare =
      shows B 1 enough
      (ap (is_close 1) (at_other B 1 enough (B - 2) (omega arith) (omega arith) (omega arith)) ∙ blank-no-close 1)
      (no-entries 1 (omega arith))

  views-closed : (s count : ℕ) → 2 ≤ s → views_of B (final_image B s count) ≡ replicate count (empty_view true)
  unfolding views_of final_image
  views-closed s zero h = refl
  views-closed s (suc count) h =
      let here : view_of B (final_bytes B s 0 B) ≡ empty_view true =
      shows B s enough (ap (is_close 1) (at-close B s enough h) ∙ close-built 1) (no-entries s (omega arith)) in
      ap (λ (v : View). v ∷ map (view_of B) (final_image B (suc s) count)) here
      ∙ ap (λ (l : List View). empty_view true ∷ l) (views-closed (suc s) count (omega arith))

  pub fresh-views : (n : ℕ) → views_of B (final_image B 0 (suc (suc n))) ≡ fresh_views n
  unfolding views_of final_image
  fresh-views n = simp (view_first, view-spare) (ap (λ (l : List View). first_view ∷ empty_view false ∷ l) (views-closed 2 n (omega arith)))

-- ---- what they mean

-- so many sectors that show the same
module _ (v : View) where
  all_same : (test : View → Bool) → test v ≡ true → (n : ℕ) → all test (replicate n v) ≡ true
  unfolding all
  all_same test h zero = refl
  all_same test h (suc n) = simp (h, all_same test h n)

  none-placed : (test : View → Bool) → test v ≡ false → (n k : ℕ) → places_from k test (replicate n v) ≡ []
  unfolding places_from
  none-placed test h zero k = refl
  none-placed test h (suc n) k = simp (h, none-placed test h n (suc k))

  no-entries-in : v.entries ≡ [] → (n : ℕ) (vs : List View) → entries_in (replicate n v ++ vs) ≡ entries_in vs
  unfolding entries_in
  no-entries-in h zero vs = refl
  no-entries-in h (suc n) vs = simp (h, no-entries-in h n vs)

-- the spare is the sector after the first
spare : (n : ℕ) → next (length (fresh_views n)) 0 ≡ 1
unfolding next
spare n = simp (ne_eqb 1 (suc (suc (length (replicate n (empty_view true))))) (omega arith))

led : (n : ℕ) → all (λ (v : View). v.led) (fresh_views n) ≡ true
unfolding all
led n = all_same (empty_view true) (λ v. v.led) refl n

working : (n : ℕ) → places_from 0 is_working (fresh_views n) ≡ 0 ∷ []
unfolding computing
working n = ap (λ (l : List ℕ). 0 ∷ l) (none-placed (empty_view true) is_working refl n 2)

unfinished : (n : ℕ) → places_from 0 is_unfinished (fresh_views n) ≡ 1 ∷ []
unfolding computing
unfinished n = ap (λ (l : List ℕ). 1 ∷ l) (none-placed (empty_view true) is_unfinished refl n 2)

pub fresh-rests : (n : ℕ) → state_of (fresh_views n) ≡ some (at_rest 0)
unfolding state_of state_by view_at is_empty
fresh-rests n = simp (led n, working n, unfinished n, spare n, when_true)

pub fresh-history : (n : ℕ) → history (at_rest 0) (fresh_views n) ≡ done_entry ∷ []
unfolding history counting all_but entries_in
fresh-history n = simp (spare n, no-entries-in (empty_view true) refl n)

pub done-matches : (id : ℕ) → lookup id (done_entry ∷ []) ≡ none
unfolding computing
done-matches id = refl
