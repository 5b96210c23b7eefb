-- A search under way: one entry down in a sector, by the IDs of the blocks, and one sector down round the ring.
-- Assumes nothing.
use mathlib.Core.Path.{◌≡◌, refl, sym, ap, ◌∙◌}
use mathlib.Core.Bool.{true, false}
use mathlib.Core.List.{List, []}
use Rattle.std.specs.Prelude.{Some, None}
use Prim.Native.Nat.{ℕ, suc, ◌+◌, ◌-◌, ◌<◌, ◌≤◌}
use native.Mathlib.Omega.{arith}
use lib.Dec.{eqb}
use lib.ListN.{length, get_or}
use Rattle.rules.specs.Ground.{Block, reserved_id}
use Rattle.rules.specs.Entry.{id_of}
use Rattle.rules.specs.Reading.{Entry, View, view_of}
use Rattle.rules.specs.Meaning.{view_at, next, previous, ring_sector, is_named}
use Rattle.rules.proofs.Blocks.Counting.{counted}
use Rattle.rules.proofs.Blocks.Lying.{lies_at}
use Rattle.rules.proofs.Ring.Newest.{named-id, previous-lt, ring-down, ring-working}
use Rattle.layout.specs.declared.image.SectorBytes.{SectorBytes}
use Rattle.layout.specs.Geometry.{blocks_of}
use Rattle.layout.specs.Image.{blocks_in}
use Rattle.sector.specs.Answer.{view_in}
use Rattle.image.specs.Answer.{no_entry}
use Rattle.search.specs.Search.{last_named_below, last_named, in_sector, seek}

-- ---- down in a sector

module _ (id : ℕ) (es : List Entry) where
  pub last-here : {m : ℕ} (n : ℕ) → m ≡ suc n → is_named id (get_or es n no_entry).head ≡ true → last_named_below id m es ≡ Some n
  unfolding last_named_below
  last-here n above named = rw (above, named)

  pub last-below : {m : ℕ} (n : ℕ) → m ≡ suc n → is_named id (get_or es n no_entry).head ≡ false → last_named_below id m es ≡ last_named_below id n es
  unfolding last_named_below
  last-below n above other = rw (above, other)

  pub last-of-none : {m : ℕ} → m ≡ 0 → last_named_below id m es ≡ None
  unfolding last_named_below
  last-of-none e = rw e

  pub last-of-all : last_named_below id (length es) es ≡ last_named id es
  unfolding last_named
  last-of-all = refl

-- The blocks tell: the ID of entry n is that of block B-3-n.
module _ (sector : SectorBytes) where
  pub entries-few : length (view_in sector).entries + 3 ≤ blocks_of sector.geometry
  unfolding view_of
  entries-few = (counted (blocks_of sector.geometry) _ (blocks_in sector) sector.geometry.sound.blocks_from).few

  pub named_by : (id n : ℕ) → (id ≡ reserved_id → ⊥) → n < length (view_in sector).entries → {block : Block}
      → block ≡ get_or (blocks_in sector) (blocks_of sector.geometry - 3 - n) []
      → is_named id (get_or (view_in sector).entries n no_entry).head ≡ eqb (id_of block) id
  unfolding view_of
  named_by id n user here read =
      let lies = lies_at (blocks_of sector.geometry) _ sector.bytes.now sector.geometry.sound.blocks_from sector.whole n no_entry here in
      named-id id user _ ∙ ap (λ (i : ℕ). eqb i id) (sym lies.id ∙ ap id_of (sym read))

-- ---- down round the ring

-- A search under way: `left` sectors are left, s being the newest of them, and the newer ones do not name the ID.
pub record Seeking (id S u : ℕ) (views : List View) (left s : ℕ) : Type 0 where
  pub few : left < S
  pub inside : s < S
  pub at : 0 < left → s ≡ ring_sector S u (left - 1)
  pub rest : seek id S u left views ≡ seek id S u (S - 1) views

-- it starts at the working sector
pub seeking-start : (id S w : ℕ) (views : List View) → w < S → 2 ≤ S → Seeking id S (next S w) views (S - 1) w
seeking-start id S w views here two =
    let last : S - 2 ≡ S - 1 - 1 = omega arith in
    record { few = omega arith; inside = here; at = λ h. sym (ring-working S w here two) ∙ ap (ring_sector S (next S w)) last; rest = refl }

module _ {id S u : ℕ} {views : List View} {left s : ℕ} (k : Seeking id S u views left s) where
  seek-down : 0 < left → seek id S u left views ≡ in_sector s (last_named id (view_at views s).entries) (seek id S u (left - 1) views)
  unfolding seek
  seek-down more =
      let above : left ≡ suc (left - 1) = omega arith in
      ap (λ (n : ℕ). seek id S u n views) above
      ∙ ap (λ (t : ℕ). in_sector t (last_named id (view_at views t).entries) (seek id S u (left - 1) views)) (sym (k.at more))

  pub seeking-found : 0 < left → {n : ℕ} → last_named id (view_at views s).entries ≡ Some n → seek id S u (S - 1) views ≡ Some (s, n)
  unfolding in_sector
  seeking-found more named = sym k.rest ∙ seek-down more ∙ rw named

  -- one sector down
  pub seeking-next : u < S → 0 < left → last_named id (view_at views s).entries ≡ None → {t : ℕ} → t ≡ previous S s
      → Seeking id S u views (left - 1) t
  unfolding in_sector
  seeking-next spare more other {t} before =
      let down : 0 < left - 1 → t ≡ ring_sector S u (left - 1 - 1) =
      λ h.
      let above : left - 1 ≡ suc (left - 1 - 1) = omega arith in
      before ∙ ap (previous S) (k.at more ∙ ap (ring_sector S u) above) ∙ sym (ring-down S u spare (left - 1 - 1) (omega (arith, k.few)))
      in
      record {
        few = omega (arith, k.few);
        inside = rw before (previous-lt S s k.inside);
        at = down;
        rest = sym (seek-down more ∙ rw other) ∙ k.rest;
      }

  pub seeking-end : left ≡ 0 → seek id S u (S - 1) views ≡ None
  unfolding seek
  seeking-end none_left = sym k.rest ∙ ap (λ (n : ℕ). seek id S u n views) none_left
