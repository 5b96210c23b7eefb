-- The first write that no longer fits the first sector of a store that was fresh: a turn, and then its entry.
use mathlib.Core.Path.{◌≡◌, sym, ap, subst, ◌∙◌}
use mathlib.Core.Bool.{true, false}
use mathlib.Core.List.{List, [], ◌∷◌, ◌++◌, append-nil}
use Prim.Native.Nat.{ℕ, suc, ◌-◌, ◌<◌, ◌≤◌}
use native.Mathlib.Omega.{arith}
use lib.ListN.{get_or, replicate}
use borrow.Author.Tests.{ne_eqb}
use Rattle.rules.specs.Notation.{Each}
use Rattle.rules.specs.Ground.{Sector, Image, block_at}
use Rattle.rules.specs.Entry.{close_block}
use Rattle.rules.specs.Look.{start, is_within}
use Rattle.rules.specs.Reading.{Entry, View, view_of, after_all, end_block}
use Rattle.rules.specs.Meaning.{views_of, view_at, next, all_but, live_each}
use Rattle.rules.specs.Stores.{Store, Kind, apply, nothing, ◌and_then◌, append, close_sector, done_entry, survivors, finish_turn, turn, turns, moved, change}
use Rattle.rules.proofs.Terms.{IsImage, IsInside, IsProper, IsAtomic, closed_view, changed}
use Rattle.rules.proofs.Blocks.OnImage.{view-at, apply-image, store_other}
use Rattle.rules.proofs.Blocks.Formatted.{final_image}
use Rattle.rules.proofs.Blocks.FormattedViews.{empty_view, at_other}
use Rattle.rules.proofs.Blocks.Reopen.{close-atomic}
use Rattle.bench_rows.proofs.Clear.{Clear, clear_stores, append-clear}
use Rattle.bench_rows.proofs.ClearTurn.{Fits, IsQuiet, finish_stores, finish-stores, finish-whole, finish-clear}
use Rattle.bench_rows.proofs.Filling.{open_view, Filled}

-- the close of a sector of cycle 1
abbrev pub close_store : (B s : ℕ) → Store
close_store B s = record { sector = s; block = B - 2; kind = Kind.close; bytes = close_block 1 }

-- what is shown once the first sector is closed
abbrev pub closed_views : (n : ℕ) → List Entry → List View
closed_views n es = closed_view (open_view es) ∷ empty_view false ∷ replicate n (empty_view true)

module _ (B n : ℕ) (big : 8 ≤ B) (most : B ≤ 4096) {im : Image} {es : List Entry} (f : Filled B n im es) where
  abbrev S : ℕ
  S = suc (suc n)

  first : 0 < S
  first = omega arith

  closes : close_sector B 0 im ≡ close_store B 0 ∷ []
  unfolding close_sector
  closes =
      let cycle : (view_of B (get_or im 0 [])).cycle ≡ 1 = ap (λ (v : View). v.cycle) (sym (view-at B im 0 (omega (arith, f.whole.sized))) ∙ f.clear.shows) in
      simp cycle

  atomic : IsAtomic B S (close_sector B 0) im (changed closed_view 0 (views_of B im))
  atomic = close-atomic big f.whole first

  abbrev pub closed : Image
  closed = apply (close_store B 0 ∷ []) im

  pub closed-whole : IsImage B S closed
  closed-whole = subst (λ (ss : List Store). IsImage B S (apply ss im)) closes (apply-image atomic.inside f.whole)

  pub closed-inside : Each (IsInside B S) (close_store B 0 ∷ [])
  closed-inside = subst (Each (IsInside B S)) closes atomic.inside

  pub closed-views : views_of B closed ≡ closed_views n es
  unfolding view_at
  closed-views = ap (λ (ss : List Store). views_of B (apply ss im)) (sym closes) ∙ atomic.whole ∙ ap (changed closed_view 0) f.views

  -- the blocks are those that they were, but for the close
  pub closed-others : (t b : ℕ) → (t ≡ 0 → ⊥) → block_at closed t b ≡ block_at (final_image B 0 S) t b
  unfolding block_at apply
  closed-others t b other = ap (λ (x : Sector). get_or x b []) (store_other im 0 (B - 2) (close_block 1) t other) ∙ f.others t b other

  pub spare-clear : Clear B 1 1 closed []
  unfolding view_at block_at final_image end_block
  spare-clear =
      record {
        shows = ap (λ (vs : List View). view_at vs 1) closed-views;
        blank = λ b from to. closed-others 1 b (λ e. omega arith) ∙ at_other B 1 big b (omega arith) (omega arith) (omega arith);
      }

  -- The turn: what lives in the collected sector o is known, and it has nothing that reads under its next cycle.
  module _ (o : ℕ) (follows : next S 1 ≡ o) (collected : o < S) (apart : o ≡ 1 → ⊥) {copies : List Entry}
      (live : get_or (live_each (all_but 1 (closed_views n es))) 0 [] ≡ copies) (copied : Fits B [] copies)
      (within : is_within B (after_all start copies) done_entry.head ≡ true) (quiet : IsQuiet B o closed)
      (e : Entry) (proper : IsProper e) (room : is_within B (after_all start (copies ++ (done_entry ∷ []))) e.head ≡ true) where
    survive : survivors B 1 closed ≡ copies
    unfolding survivors
    survive = ap (λ (vs : List View). get_or (live_each (all_but 1 vs)) 0 []) closed-views ∙ live

    byte : 1 < 256
    byte = omega arith

    second : 1 < S
    second = omega arith

    finishes : finish_turn B S 1 closed ≡ finish_stores B 1 1 o copies
    finishes = finish-stores B S 1 1 o big most byte second collected apart follows closed closed-whole spare-clear survive copied within quiet

    -- the sector after the first one
    next-first : next S 0 ≡ 1
    unfolding next
    next-first = simp (ne_eqb 1 S (λ same. omega arith))

    turns-by : turn B S 0 im ≡ close_store B 0 ∷ finish_stores B 1 1 o copies
    unfolding turn ◌and_then◌
    turns-by = simp (closes, next-first) (ap (λ (ss : List Store). close_store B 0 ∷ ss) finishes)

    appends : append B 1 e (apply (close_store B 0 ∷ finish_stores B 1 1 o copies) im) ≡ clear_stores B 1 1 (copies ++ (done_entry ∷ [])) e
    unfolding apply
    appends =
        append-clear B S 1 1 big most byte (apply (finish_stores B 1 1 o copies) closed)
        (finish-whole B S 1 1 o big most byte second collected apart follows closed closed-whole spare-clear survive copied within quiet) second
        (copies ++ (done_entry ∷ []))
        (finish-clear B S 1 1 o big most byte second collected apart follows closed closed-whole spare-clear survive copied within quiet) e proper room

    one-turn : turns B S 1 0 im ≡ close_store B 0 ∷ finish_stores B 1 1 o copies
    unfolding turns ◌and_then◌ nothing
    one-turn = append-nil (turn B S 0 im) ∙ turns-by

    pub overflow-stores : change B S 1 0 e im ≡ (close_store B 0 ∷ finish_stores B 1 1 o copies) ++ clear_stores B 1 1 (copies ++ (done_entry ∷ [])) e
    unfolding change moved ◌and_then◌
    overflow-stores = simp (one-turn, next-first) (ap (λ (ss : List Store). (close_store B 0 ∷ finish_stores B 1 1 o copies) ++ ss) appends)
