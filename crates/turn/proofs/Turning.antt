-- The values that survive a turn: which they are, and that their copies lie within the image.
-- Assumes nothing.
use mathlib.Core.Path.{◌≡◌, sym, ap, subst, ◌∙◌}
use mathlib.Core.List.{List, []}
use Prim.Native.Nat.{ℕ, ◌<◌}
use native.Mathlib.Omega.{arith}
use lib.ListN.{length}
use Rattle.rules.specs.Notation.{Each}
use Rattle.rules.specs.Look.{start}
use Rattle.rules.specs.Reading.{Entry, View, after_all}
use Rattle.rules.specs.Meaning.{view_at, next, entries_in, newer_than, live_among, live_in}
use Rattle.rules.specs.Stores.{append_all, survivors}
use Rattle.rules.proofs.Terms.{IsImage, IsProper}
use Rattle.rules.proofs.Ring.Order.{next-lt}
use Rattle.rules.proofs.Ring.Newest.{ring-first, ring-live}
use Rattle.rules.proofs.Ring.Live.{live-each, live-needs}
use Rattle.rules.proofs.Blocks.OnImage.{proper-view, counted-view}
use Rattle.rules.proofs.Blocks.OnBytes.{Lies, inside-lie}
use Rattle.rules.proofs.Crash.Turning.{live-values}
use Rattle.rules.proofs.Crash.Copies.{copies-inside}
use Rattle.layout.specs.Geometry.{blocks_of, sectors_of}
use Rattle.image.proofs.Sectors.{views-count}
use Rattle.budget.specs.declared.Writer.{Writer}
use Rattle.budget.specs.Budget.{held, shown}
use Rattle.budget.proofs.Laws.{whole_image}

module _ (w : Writer) (u : ℕ) (here : u < sectors_of w.geometry) where
  -- the live values of the sector after u
  pub survivors-are : survivors (blocks_of w.geometry) u (held w) ≡ live_in u (next (sectors_of w.geometry) u) (shown w)
  unfolding survivors
  survivors-are =
      let views : List View = shown w in
      let count : length views ≡ sectors_of w.geometry = views-count w.geometry w.image.now in
      let inside : u < length views = omega (arith, count) in
      ring-live u views inside 0 (omega (arith, count, w.geometry.sound.sectors_from))
      ∙ ap (λ (s : ℕ). live_in u s views) (ring-first (length views) u inside ∙ ap (λ (n : ℕ). next n u) count)

  -- to an empty sector
  pub survivors-lie : (view_at (shown w) u).entries ≡ []
      → Each (Lies (blocks_of w.geometry) (sectors_of w.geometry)) (append_all (blocks_of w.geometry) u (survivors (blocks_of w.geometry) u (held w)) (held w))
  unfolding live_in after_all start
  survivors-lie unused =
      let ok : IsImage (blocks_of w.geometry) (sectors_of w.geometry) (held w) = whole_image w in
      let B : ℕ = blocks_of w.geometry in
      let S : ℕ = sectors_of w.geometry in
      let views : List View = shown w in
      let o : ℕ = next S u in
      let es : List Entry = (view_at views o).entries in
      let later : List Entry = entries_in (newer_than u o views) in
      let inside : o < S = next-lt S u here in
      let none : (after_all start (view_at views u).entries).needs ≡ 0 = ap (λ (l : List Entry). (after_all start l).needs) unused in
      subst (λ (l : List Entry). Each (Lies B S) (append_all B u l (held w))) (sym survivors-are)
      (inside-lie
      (copies-inside B S u w.geometry.sound.blocks_from w.geometry.sound.blocks_to here (live_among es later) (held w) ok
      (live-each IsProper es later (proper-view w.geometry.sound.blocks_from ok inside))
      (live-values es later)
      (omega (arith, none, live-needs es later, (counted-view w.geometry.sound.blocks_from ok inside).values))))
