-- A value that was read from a sector, as a copy takes it: its head, its data blocks and its bytes at another place, by its entry's block.
-- Assumes nothing.
use mathlib.Core.Path.{◌≡◌, sym, ap, ap₂, subst, ◌∙◌}
use mathlib.Core.Bool.{true, false}
use mathlib.Core.List.{List, []}
use Prim.Native.Nat.{ℕ, ◌+◌, ◌-◌, ◌*◌, ◌/◌, ◌<◌, ◌≤◌}
use native.Mathlib.Omega.{arith}
use lib.Dec.{leb}
use lib.ListN.{length, get_or, take, drop}
use lib.Seq.{drop-drop, take_all, get_or-take, get_or-drop, ext_get_or}
use borrow.Author.Tests.{le-ltb, lt-ltb, leb-true, leb-false}
use Rattle.std.specs.Prelude.{Result}
use Rattle.rules.specs.Notation.{Each}
use Rattle.rules.specs.Ground.{Block, Sector, Image, block_size, sector_of, block_at}
use Rattle.rules.specs.Entry.{length_of, id_of, offset_of, small_value_block, long_value_block}
use Rattle.rules.specs.Look.{Head, value, data_blocks, data_of}
use Rattle.rules.specs.Reading.{Entry, View, is_long, view_of}
use Rattle.rules.specs.Meaning.{is_value, length_in, value_of, view_at}
use Rattle.rules.specs.Stores.{entry_block, data_stores}
use Rattle.rules.proofs.Terms.{HeadFits, IsProper}
use Rattle.rules.proofs.Basics.Notation.{by-test}
use Rattle.rules.proofs.Basics.Lists.{part-of-take, length_part}
use Rattle.rules.proofs.Basics.Parts.{each_at, each_take}
use Rattle.rules.proofs.Basics.Places.{at_each}
use Rattle.rules.proofs.Format.Ground.{length-pieces, get_or-pieces, sector-of-image, length-sector-bytes}
use Rattle.rules.proofs.Blocks.Lying.{LiesAt, LiesLong, lies_at}
use Rattle.rules.proofs.Blocks.Data.{data-elsewhere}
use Rattle.rules.proofs.Blocks.Stored.{copied-small, copied-long, value-head, small-fits, long-fits}
use Rattle.rules.proofs.Format.Look.{need-blocks}
use Rattle.rules.proofs.Blocks.OnImage.{view-at, proper-view, apply-other}
use Rattle.rules.proofs.Blocks.OnBytes.{Lies}
use Rattle.rules.proofs.Blocks.Formatted.{length-image}
use Rattle.layout.specs.Geometry.{blocks_of, sectors_of}
use Rattle.layout.proofs.Laws.{block-sized}
use Rattle.image.specs.Answer.{no_entry}
use Rattle.budget.specs.declared.Cut.{Cut}
use Rattle.budget.specs.declared.Writer.{Writer}
use Rattle.budget.specs.Budget.{held, shown, Did}
use Rattle.copying.specs.Copy.{entry_in, first_of, copy_of}
use Rattle.budget.proofs.Laws.{did-image, whole_image}

-- What the block of a value's entry tells: its head, its data blocks, and its bytes at another place.
pub record Copied (B : ℕ) (sector : Sector) (block : Block) (e : Entry) : Type 0 where
  pub head : e.head ≡ value (id_of block) (length_of block)
  pub blocks : e.blocks ≡ take (data_blocks (length_of block)) (drop (first_of block) sector)
  pub inside : first_of block + data_blocks (length_of block) ≤ B
  pub bytes : (cycle data_end : ℕ) → entry_block cycle data_end e ≡ copy_of cycle data_end block

-- ---- in a sector

module _ (B : ℕ) (bytes : List ℕ) (sized : length bytes ≡ B * block_size) (p : ℕ) {e : Entry} (proper : IsProper e)
    (lies : LiesAt bytes p (get_or (sector_of B bytes) p []) e) (valued : is_value e.head ≡ true) (low : p < B) where
  block : Block
  block = get_or (sector_of B bytes) p []

  head : e.head ≡ value (id_of block) (length_of block)
  unfolding block
  head = value-head e.head valued ∙ ap₂ value (sym lies.id) (sym lies.length)

  fits : HeadFits (value (id_of block) (length_of block)) e.inline
  fits = subst (λ (h : Head). HeadFits h e.inline) head proper.fits

  not-long : length_of block ≤ 8 → is_long e.head ≡ false
  unfolding is_long
  not-long few = ap is_long head ∙ le-ltb 8 (length_of block) few

  is-long : 8 < length_of block → is_long e.head ≡ true
  unfolding is_long
  is-long many = ap is_long head ∙ lt-ltb 8 (length_of block) many

  far : 8 < length_of block → LiesLong bytes p block e
  unfolding block
  far many = lies.long (is-long many)

  -- the data blocks, and where they lie
  small-blocks : length_of block ≤ 8 → e.blocks ≡ []
  unfolding data_of
  small-blocks few =
      let none : length e.blocks ≡ 0 = proper.counted ∙ ap data_of head ∙ (need-blocks (length_of block)).1 few in
      sym (take_all 0 e.blocks (omega arith))

  data-within : 8 < length_of block → offset_of block / block_size + data_blocks (length_of block) ≤ B
  data-within many = let l = far many in omega (arith, l.below, l.counted, l.aligned)

  long-blocks : 8 < length_of block → e.blocks ≡ take (data_blocks (length_of block)) (drop (offset_of block / block_size) (sector_of B bytes))
  unfolding sector_of
  long-blocks many =
      let l = far many in
      let n : ℕ = data_blocks (length_of block) in
      let m : ℕ = offset_of block / block_size in
      let sector : Sector = sector_of B bytes in
      let size : length sector ≡ B = length-pieces B block_size bytes in
      let fit : m + n ≤ B = data-within many in
      let count : length (take n (drop m sector)) ≡ n = length_part n m sector (omega arith) in
      ext_get_or [] e.blocks (take n (drop m sector)) (l.counted ∙ sym count)
      (λ k h.
      let few : k < n = omega (arith, l.counted) in
      let same : offset_of block + k * block_size ≡ (m + k) * block_size = omega (arith, l.aligned) in
      l.copied k h
      ∙ ap (λ (at : ℕ). take block_size (drop at bytes)) same
      ∙ sym (get_or-pieces B block_size bytes (m + k) (omega arith))
      ∙ sym (get_or-drop m sector k [])
      ∙ sym (get_or-take n (drop m sector) k [] few))

  -- the bytes of a value of 1 to 8
  small_bytes : length_of block ≤ 8 → take (length_of block) e.inline ≡ take (length_of block) (drop 8 block)
  unfolding value_of block
  small_bytes few =
      let len : ℕ = length_of block in
      let own = lies.own in
      let kept : take (length_in e.head) e.inline ≡ value_of e = sym (simp (not-long few)) in
      let there : take len (drop 8 block) ≡ take len (drop (p * block_size + 8) bytes) =
      ap (λ (b : Block). take len (drop 8 b)) own
      ∙ part-of-take len 8 block_size (drop (p * block_size) bytes) (omega arith)
      ∙ ap (take len) (drop-drop 8 (p * block_size) bytes) in
      ap (λ (n : ℕ). take n e.inline) lies.length
      ∙ kept
      ∙ lies.short (not-long few)
      ∙ ap (λ (n : ℕ). take n (drop (p * block_size + 8) bytes)) (sym lies.length)
      ∙ sym there

  module _ (cycle data_end : ℕ) where
    -- the entry by its fields
    again : entry_block cycle data_end e ≡ entry_block cycle data_end (record { head = value (id_of block) (length_of block); inline = e.inline; blocks = e.blocks })
    again = ap (λ (h : Head). entry_block cycle data_end (record { head = h; inline = e.inline; blocks = e.blocks })) head

    copy-bytes : entry_block cycle data_end e ≡ copy_of cycle data_end block
    unfolding copy_of
    copy-bytes =
        by-test (leb (length_of block) 8)
        (λ small.
        let few : length_of block ≤ 8 = leb-true (length_of block) 8 small in
        let (whole, padded) = small-fits fits few in
        again
        ∙ copied-small cycle data_end (id_of block) (length_of block) e.inline e.blocks few whole padded
        ∙ ap (small_value_block cycle (id_of block)) (small_bytes few)
        ∙ sym (simp small))
        (λ large.
        let many : 8 < length_of block = leb-false (length_of block) 8 large in
        again
        ∙ copied-long cycle data_end (id_of block) (length_of block) e.inline e.blocks many (long-fits fits many) proper.bytes
        ∙ ap (long_value_block cycle (id_of block) (length_of block) (data_end * block_size)) (far many).check
        ∙ sym (simp large))

  -- all of it
  pub copied_at : Copied B (sector_of B bytes) (get_or (sector_of B bytes) p []) e
  unfolding block first_of
  copied_at =
      by-test (leb (length_of block) 8)
      (λ small.
      let few : length_of block ≤ 8 = leb-true (length_of block) 8 small in
      let none : data_blocks (length_of block) ≡ 0 = (need-blocks (length_of block)).1 few in
      record {
        head = head;
        blocks = small-blocks few ∙ ap (λ (n : ℕ). take n (drop (first_of block) (sector_of B bytes))) (sym none);
        inside = simp small (omega (arith, none));
        bytes = copy-bytes;
      })
      (λ large.
      let many : 8 < length_of block = leb-false (length_of block) 8 large in
      record {
        head = head;
        blocks = simp large (long-blocks many);
        inside = simp large (data-within many);
        bytes = copy-bytes;
      })

-- ---- in an image

module _ (w : Writer) (s n : ℕ) (inside : s < sectors_of w.geometry)
    (here : n < length (view_at (shown w) s).entries) (valued : is_value (entry_in (shown w) s n).head ≡ true) where
  pub copied-in : Copied (blocks_of w.geometry) (get_or (held w) s []) (block_at (held w) s (blocks_of w.geometry - 3 - n)) (entry_in (shown w) s n)
  unfolding block_at view_of
  copied-in =
      let B : ℕ = blocks_of w.geometry in
      let S : ℕ = sectors_of w.geometry in
      let image : List ℕ = w.image.now in
      let part : List ℕ = take (B * block_size) (drop (s * (B * block_size)) image) in
      let enough : 8 ≤ B = w.geometry.sound.blocks_from in
      let sized : length part ≡ B * block_size = length-sector-bytes B S image s inside w.backs.sized in
      let sector : get_or (held w) s [] ≡ sector_of B part = sector-of-image B S image s inside in
      let seen : view_at (shown w) s ≡ view_of B (sector_of B part) =
      view-at B (held w) s (omega (arith, length-image B S image)) ∙ ap (view_of B) sector in
      let proper : IsProper (entry_in (shown w) s n) = each_at (proper-view enough (whole_image w) inside) n no_entry here in
      let there : n < length (view_of B (sector_of B part)).entries = subst (λ (v : View). n < length v.entries) seen here in
      let lies : LiesAt part (B - 3 - n) (get_or (sector_of B part) (B - 3 - n) []) (get_or (view_of B (sector_of B part)).entries n no_entry) =
      lies_at B _ part enough sized n no_entry there in
      let read : LiesAt part (B - 3 - n) (get_or (sector_of B part) (B - 3 - n) []) (entry_in (shown w) s n) =
      subst (λ (v : View). LiesAt part (B - 3 - n) (get_or (sector_of B part) (B - 3 - n) []) (get_or v.entries n no_entry)) (sym seen) lies in
      let low : B - 3 - n < B = omega arith in
      subst (λ (x : Sector). Copied B x (get_or x (B - 3 - n) []) (entry_in (shown w) s n)) (sym sector) (copied_at B part sized (B - 3 - n) proper read valued low)

-- ---- its blocks, while another sector is written

module _ (w : Writer) (s source count : ℕ) (here : s < sectors_of w.geometry) (inside : source + count ≤ blocks_of w.geometry) where
  blocks-number : length (get_or (held w) s []) ≡ blocks_of w.geometry
  unfolding sector_of
  blocks-number =
      ap length (sector-of-image (blocks_of w.geometry) (sectors_of w.geometry) w.image.now s here) ∙ length-pieces (blocks_of w.geometry) block_size _

  pub source-count : length (take count (drop source (get_or (held w) s []))) ≡ count
  source-count = length_part count source (get_or (held w) s []) (omega (arith, blocks-number))

  pub source-block : (i : ℕ) → i < count → get_or (take count (drop source (get_or (held w) s []))) i [] ≡ block_at (held w) s (source + i)
  unfolding block_at
  source-block i few = get_or-take count (drop source (get_or (held w) s [])) i [] few ∙ get_or-drop source (get_or (held w) s []) i []

  pub source-sized : Each (λ (b : Block). length b ≡ block_size) (take count (drop source (get_or (held w) s [])))
  source-sized =
      at_each (λ (b : Block). length b ≡ block_size) [] (take count (drop source (get_or (held w) s [])))
      (λ i h.
      let few : i < count = omega (arith, source-count) in
      ap length (source-block i few) ∙ block-sized w.geometry w.image.now s (source + i) w.backs here (omega arith))

-- data blocks stored in one sector leave the others
pub source_stays : {T : Type 0} {w w' : Writer} {r : Result T Cut} (s b t : ℕ) (blocks : List Block) → (t ≡ s → ⊥)
    → Each (Lies (blocks_of w.geometry) (sectors_of w.geometry)) (data_stores s b blocks) → Did w (data_stores s b blocks) w' r
    → get_or (held w') t [] ≡ get_or (held w) t []
source_stays {w = w} s b t blocks other lie did =
    ap (λ (im : Image). get_or im t []) (did-image did lie)
    ∙ apply-other (held w) t (each_take w.budget.left (data-elsewhere s b t blocks other))
