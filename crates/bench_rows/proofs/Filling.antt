-- Writes to a fresh store that fit its first sector: one store for the entry and one for each data block, and no turn.
use mathlib.Core.Path.{◌≡◌, refl, sym, ap, subst, ◌∙◌}
use mathlib.Core.Bool.{true, false}
use mathlib.Core.List.{List, [], ◌∷◌, ◌++◌}
use mathlib.Core.Option.{some}
use Prim.Native.Nat.{ℕ, suc, ◌+◌, ◌*◌, ◌-◌, ◌<◌, ◌≤◌}
use native.Mathlib.Nat.{add_comm}
use native.Mathlib.Omega.{arith}
use lib.ListN.{length, replicate, length-replicate, length-append}
use borrow.Author.Tests.{le-leb}
use Rattle.rules.specs.Notation.{Each}
use Rattle.rules.specs.Ground.{Image, block_size, kept_from_values, image_of, block_at}
use Rattle.rules.specs.Entry.{done_block}
use Rattle.rules.specs.Look.{start, need_of, data_blocks, is_within}
use Rattle.rules.specs.Reading.{Entry, View, after_all, end_block}
use Rattle.rules.specs.Meaning.{at_rest, views_of, view_at, state_of, Is, needs_of}
use Rattle.rules.specs.Stores.{Store, apply, nothing, ◌and_then◌, append, done_entry, value_entry, turns, moved, first_fit, least_turns, change}
use Rattle.rules.specs.Calls.{make, in_rest, write_on}
use Rattle.rules.specs.Demands.{IsId, IsUser, AreBytes}
use Rattle.rules.proofs.Terms.{IsImage, IsProper, IsInside, added_view, changed}
use Rattle.rules.proofs.Basics.Parts.{each-replicate}
use Rattle.rules.proofs.Format.Ground.{length-pieces}
use Rattle.rules.proofs.Blocks.Counting.{needs-all}
use Rattle.rules.proofs.Crash.Effects.{short-value}
use Rattle.rules.proofs.Blocks.Made.{value-proper}
use Rattle.rules.proofs.Blocks.OnImage.{apply-image}
use Rattle.rules.proofs.Blocks.OnBytes.{image-of-bytes}
use Rattle.rules.proofs.Blocks.Formatted.{final_image, format-inside, format-bytes}
use Rattle.rules.proofs.Blocks.FormattedViews.{empty_view, at_done, at_other, fresh-views, fresh-rests}
use Rattle.rules.proofs.Ring.States.{state-is, is_state}
use Rattle.rules.proofs.Ring.Events.{after-add}
use Rattle.bench_rows.proofs.LongestValue.{length-data-stores, turned, change-by, write-fits}
use Rattle.bench_rows.proofs.Clear.{Clear, clear_stores, append-clear, clear-views, clear-image, clear-inside, clear-after, kept_above, kept-other}

-- what the first sector shows, these entries after its done
abbrev pub open_view : List Entry → View
open_view es = record { led = true; cycle = 1; closed = false; entries = done_entry ∷ es }

abbrev pub views_with : (n : ℕ) → List Entry → List View
views_with n es = open_view es ∷ empty_view false ∷ replicate n (empty_view true)

-- A store of n + 2 sectors whose first sector alone was written to since its format.
pub record Filled (B n : ℕ) (im : Image) (es : List Entry) : Type 0 where
  pub whole : IsImage B (suc (suc n)) im
  pub views : views_of B im ≡ views_with n es
  pub rests : state_of (views_of B im) ≡ some (at_rest 0)
  pub clear : Clear B 1 0 im (done_entry ∷ es)
  pub done : block_at im 0 (B - 3) ≡ done_block 1
  pub others : (t b : ℕ) → (t ≡ 0 → ⊥) → block_at im t b ≡ block_at (final_image B 0 (suc (suc n))) t b

module _ (B n : ℕ) (big : 8 ≤ B) (most : B ≤ 4096) where
  -- a format makes one of any bytes
  fresh-image : IsImage B (suc (suc n)) (final_image B 0 (suc (suc n)))
  fresh-image =
      let S : ℕ = suc (suc n) in
      let bytes : List ℕ = replicate (S * (B * block_size)) 0 in
      let zeros : IsImage B S (image_of B S bytes) = image-of-bytes B S bytes (each-replicate (S * (B * block_size)) 0 (omega arith)) (length-replicate (S * (B * block_size)) 0) in
      subst (IsImage B S) (format-bytes B S bytes (omega arith) (omega arith)) (apply-image (format-inside B S (omega arith) (omega arith)) zeros)

  pub filled-fresh : Filled B n (final_image B 0 (suc (suc n))) []
  unfolding view_at block_at final_image end_block
  filled-fresh =
      record {
        whole = fresh-image;
        views = fresh-views B big n;
        rests = ap state_of (fresh-views B big n) ∙ fresh-rests n;
        clear = record {
          shows = ap (λ (vs : List View). view_at vs 0) (fresh-views B big n);
          blank = λ b from to. at_other B 0 big b (omega arith) (omega arith) (omega arith);
        };
        done = at_done B 0 big refl;
        others = λ t b other. refl;
      }

  module _ {im : Image} {es : List Entry} (f : Filled B n im es) (e : Entry) (proper : IsProper e) (within : is_within B (after_all start (done_entry ∷ es)) e.head ≡ true) where
    abbrev stores : List Store
    stores = clear_stores B 1 0 (done_entry ∷ es) e

    first : 0 < suc (suc n)
    first = omega arith

    byte : 1 < 256
    byte = omega arith

    pub filled-inside : Each (IsInside B (suc (suc n))) stores
    filled-inside = clear-inside B (suc (suc n)) 1 0 big most byte im f.whole first (done_entry ∷ es) f.clear e proper within

    pub filled-append : append B 0 e im ≡ stores
    filled-append = append-clear B (suc (suc n)) 1 0 big most byte im f.whole first (done_entry ∷ es) f.clear e proper within

    -- and there it is, with one entry more
    pub filled_more : Filled B n (apply stores im) (es ++ (e ∷ []))
    unfolding view_at Is end_block
    filled_more =
        let S : ℕ = suc (suc n) in
        let shown = clear-views B S 1 0 big most byte im f.whole first (done_entry ∷ es) f.clear e proper within in
        record {
          whole = clear-image B S 1 0 big most byte im f.whole first (done_entry ∷ es) f.clear e proper within;
          views = shown ∙ ap (changed (added_view e) 0) f.views;
          rests = is_state _ (at_rest 0) (subst (λ (vs : List View). Is vs (at_rest 0)) (sym shown) (after-add (views_of B im) 0 e (state-is (views_of B im) (at_rest 0) f.rests)));
          clear = clear-after B S 1 0 big most byte im f.whole first (done_entry ∷ es) f.clear e proper within;
          done = kept_above B S 1 0 big most byte im f.whole first (done_entry ∷ es) f.clear e proper within (B - 3) (omega arith) ∙ f.done;
          others = λ t b other. kept-other B S 1 0 big most byte im f.whole first (done_entry ∷ es) f.clear e proper within t b other ∙ f.others t b other;
        }

-- the stores of an entry, counted
pub length-clear : (B cycle s : ℕ) (es : List Entry) (e : Entry) → length (clear_stores B cycle s es e) ≡ length e.blocks + 1
unfolding clear_stores
length-clear B cycle s es e = simp (length-append, length-data-stores)

-- A value of an ID that is no longer than a sector takes.
pub record IsValue (B id : ℕ) (bytes : List ℕ) : Type 0 where
  pub user : IsUser id
  pub typed : AreBytes bytes
  pub some_bytes : 1 ≤ length bytes
  pub short : 1 + data_blocks (length bytes) ≤ B - kept_from_values

module _ (B : ℕ) (big : 8 ≤ B) (most : B ≤ 4096) {id : ℕ} {bytes : List ℕ} (v : IsValue B id bytes) where
  abbrev entry : Entry
  entry = value_entry id bytes

  abbrev need : ℕ
  need = 1 + data_blocks (length bytes)

  pub value-entry : IsProper (value_entry id bytes)
  unfolding IsUser IsId AreBytes
  value-entry = value-proper id v.user.0 v.user.1 v.typed v.some_bytes (short-value B (length bytes) most v.short)

  -- it makes as many stores as it needs blocks
  pub value-stores : (cycle s : ℕ) (es : List Entry) → length (clear_stores B cycle s es (value_entry id bytes)) ≡ 1 + data_blocks (length bytes)
  unfolding value_entry
  value-stores cycle s es = length-clear B cycle s es entry ∙ ap (λ (k : ℕ). k + 1) (length-pieces (data_blocks (length bytes)) block_size _) ∙ add_comm (data_blocks (length bytes)) 1

  -- it counts where the needs leave room
  pub value-within : (es : List Entry) → needs_of es + (1 + data_blocks (length bytes)) ≤ B - kept_from_values → is_within B (after_all start es) (value_entry id bytes).head ≡ true
  unfolding is_within value_entry need_of
  value-within es room = simp (needs-all es) (le-leb (needs_of es + need) (B - kept_from_values) room)

  -- by the least number of turns
  pub write-by : (S : ℕ) (im : Image) (t : ℕ) → state_of (views_of B im) ≡ some (at_rest 0) → least_turns (1 + data_blocks (length bytes)) (B - kept_from_values) 0 (views_of B im) ≡ some t
      → write_on B S im id bytes ≡ make (change B S t 0 (value_entry id bytes) im) t
  unfolding in_rest turned need_of value_entry IsUser
  write-by S im t rests least =
      write-fits B S im id bytes v.user.1 v.some_bytes v.short
      ∙ simp rests (change-by B S 0 (B - kept_from_values) entry im ∙ ap (turned B S 0 (B - kept_from_values) entry im) least)

  module _ (n : ℕ) {im : Image} {es : List Entry} (f : Filled B n im es) (room : needs_of es + (1 + data_blocks (length bytes)) ≤ B - kept_from_values) where
    no-turn : least_turns need (B - kept_from_values) 0 (views_of B im) ≡ some 0
    unfolding least_turns first_fit view_at needs_of need_of done_entry
    no-turn = simp f.views (simp (le-leb (0 + needs_of es + need) (B - kept_from_values) (omega arith)))

    done-room : needs_of (done_entry ∷ es) + need ≤ B - kept_from_values
    unfolding needs_of need_of done_entry
    done-room = omega arith

    pub write-filled : write_on B (suc (suc n)) im id bytes ≡ make (clear_stores B 1 0 (done_entry ∷ es) (value_entry id bytes)) 0
    unfolding change turns moved ◌and_then◌ nothing apply
    write-filled =
        write-by (suc (suc n)) im 0 f.rests no-turn
        ∙ ap (λ (ss : List Store). make ss 0) (filled-append B n big most f entry value-entry (value-within (done_entry ∷ es) done-room))

    -- and the store is filled by one more
    pub write-more : Filled B n (apply (clear_stores B 1 0 (done_entry ∷ es) (value_entry id bytes)) im) (es ++ (value_entry id bytes ∷ []))
    write-more = filled_more B n big most f entry value-entry (value-within (done_entry ∷ es) done-room)

    pub write-inside : Each (IsInside B (suc (suc n))) (clear_stores B 1 0 (done_entry ∷ es) (value_entry id bytes))
    write-inside = filled-inside B n big most f entry value-entry (value-within (done_entry ∷ es) done-room)
