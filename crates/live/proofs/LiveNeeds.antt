-- The needs of a sector's live values, entry by entry.
-- Assumes nothing.
use mathlib.Core.Path.{◌≡◌, ap, ◌∙◌}
use mathlib.Core.Bool.{true, false}
use mathlib.Core.List.{List}
use Prim.Native.Nat.{ℕ, ◌+◌, ◌≤◌, ◌<◌}
use native.Mathlib.Omega.{arith}
use lib.ListN.{length, get_or, drop}
use Rattle.rules.specs.Entry.{length_of}
use Rattle.rules.specs.Look.{data_blocks}
use Rattle.rules.specs.Reading.{View}
use Rattle.rules.specs.Meaning.{view_at, entries_in, newer_than, live_in, needs_of}
use Rattle.rules.proofs.Ring.Live.{live-needs}
use Rattle.layout.specs.declared.Geometry.{Geometry}
use Rattle.layout.specs.Geometry.{blocks_of, sectors_of, Backs}
use Rattle.image.specs.Answer.{views_in}
use Rattle.image.specs.Answer.{no_entry}
use Rattle.live.specs.Live.{live_flags_in}
use Rattle.image.proofs.Laws.{entries-counted}
use Rattle.live.proofs.LiveLaws.{chosen, chosen-here, chosen-passed, chosen-end, length-live-in, chosen-live-in}
use Rattle.image.proofs.EntryBlocks.{entry_block}
use Rattle.live.proofs.LiveEntries.{live-need}

-- the needs of the live values from entry n on
abbrev pub needs_from : (u s : ℕ) → List View → (n : ℕ) → ℕ
needs_from u s views n = needs_of (chosen (drop n (live_flags_in u s views)) (drop n (view_at views s).entries))

module _ (u s : ℕ) (views : List View) where
  pub needs-all : needs_from u s views 0 ≡ needs_of (live_in u s views)
  needs-all = ap needs_of (chosen-live-in u s views)

  pub needs-passed : (n : ℕ) → n < length (view_at views s).entries → get_or (live_flags_in u s views) n false ≡ false → needs_from u s views n ≡ needs_from u s views (n + 1)
  needs-passed n here dead = ap needs_of (chosen-passed (live_flags_in u s views) (view_at views s).entries (length-live-in u s views) n no_entry here dead)

  pub needs-none : (n : ℕ) → length (view_at views s).entries ≤ n → needs_from u s views n ≡ 0
  unfolding needs_of
  needs-none n past = ap needs_of (chosen-end (live_flags_in u s views) (view_at views s).entries (length-live-in u s views) n past)

module _ (g : Geometry) (bytes : List ℕ) (u s : ℕ) (inside : s < sectors_of g) where
  pub needs-here : Backs g bytes → (n : ℕ) → n < length (view_at (views_in g bytes) s).entries → get_or (live_flags_in u s (views_in g bytes)) n false ≡ true
      → needs_from u s (views_in g bytes) n ≡ 1 + data_blocks (length_of (entry_block g bytes s n)) + needs_from u s (views_in g bytes) (n + 1)
  unfolding needs_of
  needs-here backs n here live =
      let views : List View = views_in g bytes in
      ap needs_of (chosen-here (live_flags_in u s views) (view_at views s).entries (length-live-in u s views) n no_entry here live)
      ∙ ap (λ (k : ℕ). k + needs_from u s views (n + 1)) (live-need g bytes backs s n inside here u live)

  -- they fit a sector
  pub needs-few : needs_of (live_in u s (views_in g bytes)) ≤ blocks_of g
  unfolding live_in
  needs-few =
      let views : List View = views_in g bytes in
      omega (arith, live-needs (view_at views s).entries (entries_in (newer_than u s views)), (entries-counted g bytes s inside).values)
