-- The live values by place in the ring are those by sector number.
use mathlib.Core.Path.{◌≡◌, refl, sym, ap, subst, ◌∙◌}
use mathlib.Core.List.{List, [], ◌∷◌, ◌++◌, map}
use mathlib.Core.Logic.{by_cases}
use Prim.Native.Nat.{ℕ, zero, suc, ◌+◌, ◌-◌, ◌<◌}
use native.Mathlib.Nat.{le_of_suc-le-suc}
use native.Mathlib.Decide.{dec_lt}
use native.Mathlib.Omega.{arith}
use lib.ListN.{length, get_or, take, drop, length-drop, length-map, get_or-append, get_or-map}
use lib.Seq.{drop-append-le, drop-append-add, get_or-append-add, get_or-take, get_or-drop, drop-drop}
use borrow.Author.Tests.{lt-ltb, le-ltb}
use Rattle.rules.specs.Notation.{Each}
use Rattle.rules.specs.Reading.{View}
use Rattle.rules.specs.Meaning.{no_view, view_at, all_but, entries_in, live_among, live_each, needs_of, newer_than, live_in}
use Rattle.rules.proofs.Basics.Places.{at_each}
use Rattle.rules.proofs.Basics.Parts.{each_at}
use Rattle.rules.proofs.Ring.Order.{length-all_but}

pub length-live_each : (views : List View) → length (live_each views) ≡ length views
unfolding live_each
length-live_each [] = refl
length-live_each (v ∷ vs) = ap suc (length-live_each vs)

pub live_at : (views : List View) (k : ℕ) → k < length views
    → get_or (live_each views) k [] ≡ live_among (view_at views k).entries (entries_in (drop (suc k) views))
unfolding live_each view_at
live_at [] k h = absurd (omega arith)
live_at (v ∷ vs) zero h = refl
live_at (v ∷ vs) (suc k) h = live_at vs k (le_of_suc-le-suc h)

module _ (u : ℕ) (views : List View) (here : u < length views) where
  -- which sector stands at place k: those behind u first, then those before it
  pub view-behind : (k s : ℕ) → s ≡ suc u + k → s < length views → view_at (all_but u views) k ≡ view_at views s
  unfolding all_but view_at
  view-behind k s e h =
      let behind : List View = drop (suc u) views in
      let sized : length behind ≡ length views - suc u = length-drop (suc u) views in
      get_or-append behind (take u views) no_view k (omega arith) ∙ get_or-drop (suc u) views k no_view ∙ ap (λ (n : ℕ). get_or views n no_view) (sym e)

  pub view-before : (k s : ℕ) → k ≡ length views - suc u + s → s < u → view_at (all_but u views) k ≡ view_at views s
  unfolding all_but view_at
  view-before k s e h =
      let behind : List View = drop (suc u) views in
      let sized : length behind ≡ length views - suc u = length-drop (suc u) views in
      let place : k ≡ length behind + s = omega arith in
      ap (λ (n : ℕ). get_or (behind ++ take u views) n no_view) place ∙ get_or-append-add behind (take u views) s no_view ∙ get_or-take u views s no_view h

  -- sector s has place k where it stands there, and what follows is what is newer
  placed : (k s : ℕ) → k < length views - 1 → view_at (all_but u views) k ≡ view_at views s → drop (suc k) (all_but u views) ≡ newer_than u s views
      → get_or (live_each (all_but u views)) k [] ≡ live_in u s views
  unfolding live_in
  placed k s h view newer =
      let below : k < length (all_but u views) = omega (arith, length-all_but u views here) in
      live_at (all_but u views) k below ∙ simp (view, newer)

  -- the sectors at the places after it are the newer ones
  pub newer-behind : (k s : ℕ) → s ≡ suc u + k → s < length views → drop (suc k) (all_but u views) ≡ newer_than u s views
  unfolding newer_than all_but
  newer-behind k s e h =
      let behind : List View = drop (suc u) views in
      let sized : length behind ≡ length views - suc u = length-drop (suc u) views in
      let after : suc u + suc k ≡ suc s = omega arith in
      drop-append-le (suc k) behind (take u views) (omega arith) ∙ simp (drop-drop (suc k) (suc u) views, after, lt-ltb u s (omega arith))

  pub newer-before : (k s : ℕ) → k ≡ length views - suc u + s → s < u → drop (suc k) (all_but u views) ≡ newer_than u s views
  unfolding newer_than all_but
  newer-before k s e h =
      let behind : List View = drop (suc u) views in
      let sized : length behind ≡ length views - suc u = length-drop (suc u) views in
      let after : suc k ≡ length behind + suc s = omega arith in
      ap (λ (n : ℕ). drop n (behind ++ take u views)) after ∙ drop-append-add behind (take u views) (suc s) ∙ simp (le-ltb u s (omega arith))

  pub live-behind : (k s : ℕ) → s ≡ suc u + k → s < length views → get_or (live_each (all_but u views)) k [] ≡ live_in u s views
  live-behind k s e h = placed k s (omega arith) (view-behind k s e h) (newer-behind k s e h)

  pub live-before : (k s : ℕ) → k ≡ length views - suc u + s → s < u → get_or (live_each (all_but u views)) k [] ≡ live_in u s views
  live-before k s e h = placed k s (omega arith) (view-before k s e h) (newer-before k s e h)

  -- Every sector but u has a place in the ring, and every place is that of such a sector.
  pub place_of : (s : ℕ) → s < length views → (s ≡ u → ⊥)
      → (k : ℕ) × (k < length views - 1) × (get_or (live_each (all_but u views)) k [] ≡ live_in u s views)
  place_of s h other =
      by_cases (dec_lt u s)
      (λ behind. (s - suc u, omega arith, live-behind (s - suc u) s (omega arith) h))
      (λ not_behind. (length views - suc u + s, omega arith, live-before (length views - suc u + s) s refl (omega arith)))

  pub sector-at : (k : ℕ) → k < length views - 1
      → (s : ℕ) × (s < length views) × (s ≡ u → ⊥) × (get_or (live_each (all_but u views)) k [] ≡ live_in u s views)
  sector-at k h =
      by_cases (dec_lt (u + k) (length views - 1))
      (λ behind. (suc u + k, omega arith, (λ e. omega arith), live-behind k (suc u + k) refl (omega arith)))
      (λ before. (u + k - (length views - 1), omega arith, (λ e. omega arith), live-before k (u + k - (length views - 1)) (omega arith) (omega arith)))

-- So a claim about the live needs of all places in the ring is one about all sectors but u.
module _ {κ} (P : ℕ → Type κ) (u : ℕ) (views : List View) (here : u < length views) where
  needs-length : length (map needs_of (live_each (all_but u views))) ≡ length views - 1
  needs-length = length-map (live_each (all_but u views)) needs_of ∙ length-live_each (all_but u views) ∙ length-all_but u views here

  needs-at : (k : ℕ) → get_or (map needs_of (live_each (all_but u views))) k (needs_of []) ≡ needs_of (get_or (live_each (all_but u views)) k [])
  needs-at k = get_or-map needs_of (live_each (all_but u views)) k []

  pub ring-sectors : Each P (map needs_of (live_each (all_but u views)))
      → (s : ℕ) → s < length views → (s ≡ u → ⊥) → P (needs_of (live_in u s views))
  ring-sectors all s h other =
      let (k, below, same) = place_of u views here s h other in
      subst P (needs-at k ∙ ap needs_of same) (each_at all k (needs_of []) (omega (arith, needs-length)))

  pub sectors-ring : ((s : ℕ) → s < length views → (s ≡ u → ⊥) → P (needs_of (live_in u s views)))
      → Each P (map needs_of (live_each (all_but u views)))
  sectors-ring all = at_each P (needs_of []) (map needs_of (live_each (all_but u views))) go
    where
      go : (k : ℕ) → k < length (map needs_of (live_each (all_but u views))) → P (get_or (map needs_of (live_each (all_but u views))) k (needs_of []))
      go k h =
          let (s, below, other, same) = sector-at u views here k (omega (arith, needs-length)) in
          subst P (sym (needs-at k ∙ ap needs_of same)) (all s below other)
