-- Appends to a sector that is blank between its data and its entries: no look-ahead blank, and blank again below.
use mathlib.Core.Path.{◌≡◌, refl, sym, ap, subst, ◌∙◌}
use mathlib.Core.Bool.{true, false}
use mathlib.Core.List.{List, [], ◌∷◌, ◌++◌, append-nil}
use Prim.Native.Nat.{ℕ, ◌+◌, ◌-◌, ◌<◌, ◌≤◌}
use native.Mathlib.Omega.{arith}
use lib.ListN.{length, get_or, set, length-append}
use lib.Seq.{get_or-set_same, get_or-set_other}
use Rattle.rules.specs.Notation.{Each, empty, each}
use Rattle.rules.specs.Ground.{Sector, Image, block_at, blank_block}
use Rattle.rules.specs.Look.{Scan, start, after, data_of, is_within}
use Rattle.rules.specs.Reading.{Entry, View, view_of, after_all, end_block}
use Rattle.rules.specs.Meaning.{views_of, view_at}
use Rattle.rules.specs.Stores.{Store, apply, data_stores, blank_if, entry_block, kind_of, append}
use Rattle.rules.proofs.Terms.{IsImage, IsInside, IsProper, IsAtomic, added_view, changed}
use Rattle.rules.proofs.Basics.Parts.{each_append}
use Rattle.rules.proofs.Blocks.Reading.{after-snoc}
use Rattle.rules.proofs.Blocks.Written.{entry-block}
use Rattle.rules.proofs.Blocks.Added.{added-place}
use Rattle.rules.proofs.Blocks.OnImage.{puts, puts-append, IsIn, apply-puts, sector-at, view-at, views-length, apply-image}
use Rattle.rules.proofs.Blocks.Free.{free_in, data-free, Keeps, free-keeps, blank_none}
use Rattle.rules.proofs.Blocks.Append.{append-atomic}
use Rattle.rules.proofs.Ring.History.{changed-here}

-- where the next entry's data begins, and its block
abbrev pub data_end : List Entry → ℕ
data_end es = (after_all start es).data_end

-- An open sector of this cycle with these entries, and blank between its data and them.
pub record Clear (B cycle s : ℕ) (im : Image) (es : List Entry) : Type 0 where
  pub shows : view_at (views_of B im) s ≡ record { led = true; cycle = cycle; closed = false; entries = es }
  pub blank : (b : ℕ) → data_end es ≤ b → b < end_block B es → block_at im s b ≡ blank_block

-- the stores of an entry there: its data and itself
unfoldable pub clear_stores : (B cycle s : ℕ) → List Entry → Entry → List Store
clear_stores B cycle s es e =
    data_stores s (data_end es) e.blocks
    ++ (record { sector = s; block = end_block B es; kind = kind_of e.head; bytes = entry_block cycle (data_end es) e } ∷ [])

module _ (B S cycle s : ℕ) (big : 8 ≤ B) (most : B ≤ 4096) (byte : cycle < 256) (im : Image) (ok : IsImage B S im) (inside : s < S) (es : List Entry) (clear : Clear B cycle s im es)
    (e : Entry) (proper : IsProper e) (within : is_within B (after_all start es) e.head ≡ true) where
  abbrev sector : Sector
  sector = get_or im s []

  here : s < length im
  here = omega (arith, ok.sized)

  seen : view_of B sector ≡ record { led = true; cycle = cycle; closed = false; entries = es }
  seen = sym (view-at B im s here) ∙ clear.shows

  entries-seen : (view_of B sector).entries ≡ es
  entries-seen = ap (λ (v : View). v.entries) seen

  -- its data ends below the block under its own
  room : data_end es + data_of e.head < end_block B es
  unfolding view_of
  room =
      subst (λ (l : List Entry). (after_all start l).data_end + data_of e.head < end_block B l) entries-seen
      (added-place B _ sector e big (subst (λ (l : List Entry). is_within B (after_all start l) e.head ≡ true) (sym entries-seen) within))

  under-close : end_block B es + 3 ≤ B
  unfolding end_block
  under-close = omega (arith, room)

  abbrev contents : List Store
  contents = data_stores s (data_end es) e.blocks

  contents-in : Each (IsIn B s) contents
  contents-in =
      free_in {high = B} (omega arith) (data-free s (data_end es) B (data_end es) (omega arith) (omega (arith, room, under-close, proper.counted)) proper.blocks)

  keeps : Keeps (data_end es) (data_end es + data_of e.head) sector (puts contents sector)
  keeps = free-keeps (data-free s (data_end es) (data_end es + data_of e.head) (data_end es) (omega arith) (omega (arith, proper.counted)) proper.blocks) sector

  laid : get_or (apply contents im) s [] ≡ puts contents sector
  laid = ap (λ (x : Image). get_or x s []) (apply-puts im contents-in here) ∙ get_or-set_same im s (puts contents sector) [] here

  below : block_at (apply contents im) s (end_block B es - 1) ≡ blank_block
  unfolding block_at
  below =
      ap (λ (x : Sector). get_or x (end_block B es - 1) []) laid
      ∙ keeps.above (end_block B es - 1) (omega (arith, room))
      ∙ clear.blank (end_block B es - 1) (omega (arith, room)) (omega (arith, room))

  pub append-clear : append B s e im ≡ clear_stores B cycle s es e
  unfolding append clear_stores blank_if
  append-clear =
      simp (seen) (simp (below, blank_none B cycle (after (after_all start es) e.head), append-nil))

  abbrev entry_store : Store
  entry_store = record { sector = s; block = end_block B es; kind = kind_of e.head; bytes = entry_block cycle (data_end es) e }

  stores-in : Each (IsIn B s) (clear_stores B cycle s es e)
  unfolding clear_stores
  stores-in =
      each_append contents-in (each (record { sector = refl; block = omega (arith, under-close); bytes = entry-block cycle (data_end es) proper byte }) empty)

  atomic : IsAtomic B S (append B s e) im (changed (added_view e) s (views_of B im))
  atomic = append-atomic big most ok inside proper (subst (λ (v : View). is_within B (after_all start v.entries) e.head ≡ true) (sym clear.shows) within)

  pub clear-inside : Each (IsInside B S) (clear_stores B cycle s es e)
  clear-inside = subst (Each (IsInside B S)) append-clear atomic.inside

  -- the image after them
  pub clear-views : views_of B (apply (clear_stores B cycle s es e) im) ≡ changed (added_view e) s (views_of B im)
  clear-views = ap (λ (ss : List Store). views_of B (apply ss im)) (sym append-clear) ∙ atomic.whole

  pub clear-image : IsImage B S (apply (clear_stores B cycle s es e) im)
  clear-image = subst (λ (ss : List Store). IsImage B S (apply ss im)) append-clear (apply-image atomic.inside ok)

  -- the entry stands there
  laid-entry : get_or (apply (clear_stores B cycle s es e) im) s [] ≡ set (puts contents sector) (end_block B es) (entry_block cycle (data_end es) e)
  unfolding clear_stores puts
  laid-entry =
      ap (λ (x : Image). get_or x s []) (apply-puts im stores-in here)
      ∙ get_or-set_same im s (puts (contents ++ (entry_store ∷ [])) sector) [] here
      ∙ puts-append contents (entry_store ∷ []) sector

  pub entry-stands : block_at (apply (clear_stores B cycle s es e) im) s (end_block B es) ≡ entry_block cycle (data_end es) e
  unfolding block_at
  entry-stands =
      ap (λ (x : Sector). get_or x (end_block B es) []) laid-entry
      ∙ get_or-set_same (puts contents sector) (end_block B es) (entry_block cycle (data_end es) e) [] (omega (arith, keeps.sized, (sector-at ok inside).sized, under-close))

  -- and the blocks are those that there were, but for the data and the entry
  module _ (b : ℕ) (behind : data_end es + data_of e.head ≤ b) (other : b ≡ end_block B es → ⊥) where
    pub kept_here : block_at (apply (clear_stores B cycle s es e) im) s b ≡ block_at im s b
    unfolding block_at
    kept_here =
        ap (λ (x : Sector). get_or x b []) laid-entry
        ∙ get_or-set_other (puts contents sector) (end_block B es) b (entry_block cycle (data_end es) e) [] other
        ∙ keeps.above b behind

  pub kept_above : (b : ℕ) → end_block B es < b → block_at (apply (clear_stores B cycle s es e) im) s b ≡ block_at im s b
  kept_above b above = kept_here b (omega (arith, room)) (λ same. omega arith)

  pub kept-other : (t b : ℕ) → (t ≡ s → ⊥) → block_at (apply (clear_stores B cycle s es e) im) t b ≡ block_at im t b
  unfolding block_at
  kept-other t b other =
      ap (λ (x : Image). get_or (get_or x t []) b []) (apply-puts im stores-in here)
      ∙ ap (λ (x : Sector). get_or x b []) (get_or-set_other im s t (puts (clear_stores B cycle s es e) sector) [] other)

  -- and is as clear as before, with the entry
  pub clear-after : Clear B cycle s (apply (clear_stores B cycle s es e) im) (es ++ (e ∷ []))
  unfolding after end_block
  clear-after =
      record {
        shows =
            ap (λ (vs : List View). view_at vs s) clear-views
            ∙ changed-here (added_view e) s (views_of B im) (omega (arith, views-length B im, ok.sized))
            ∙ ap (added_view e) clear.shows;
        blank = λ b from to.
            let more : data_end (es ++ (e ∷ [])) ≡ data_end es + data_of e.head = ap (λ (scan : Scan). scan.data_end) (after-snoc start es e) in
            let one : length (es ++ (e ∷ [])) ≡ length es + 1 = length-append es (e ∷ []) in
            kept_here b (omega arith) (λ same. omega arith) ∙ clear.blank b (omega arith) (omega arith);
      }
