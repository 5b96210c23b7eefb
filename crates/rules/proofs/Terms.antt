-- Words that the laws share: whole images, proper entries, and the three events that change what a sector shows.
use mathlib.Core.Path.{◌≡◌}
use mathlib.Core.Bool.{true, false}
use mathlib.Core.List.{List, [], ◌∷◌, ◌++◌}
use Prim.Native.Nat.{ℕ, ◌<◌, ◌≤◌, ◌^◌}
use lib.ListN.{length, take, drop, set}
use Rattle.rules.specs.Notation.{is_erased, Each}
use Rattle.rules.specs.Ground.{Block, Sector, Image, block_size, reserved_id}
use Rattle.rules.specs.Look.{Head, done, deletion, value, data_of}
use Rattle.rules.specs.Reading.{Entry, View}
use Rattle.rules.specs.Meaning.{views_of, view_at}
use Rattle.rules.specs.Stores.{Store, Plan, apply, next_cycle}

-- sixteen bytes
pub record IsBlock (block : Block) : Type 0 where
  pub sized : length block ≡ block_size
  pub bytes : Each (λ b. b < 256) block

-- B blocks
pub record IsSector (B : ℕ) (sector : Sector) : Type 0 where
  pub sized : length sector ≡ B
  pub blocks : Each IsBlock sector

-- S such sectors
pub record IsImage (B S : ℕ) (im : Image) : Type 0 where
  pub sized : length im ≡ S
  pub sectors : Each (IsSector B) im

-- What each kind of head asks of the bytes behind it.
pub data HeadFits : Head → List ℕ → Type 0 where
  fits-done : {rest : List ℕ} → length rest ≡ 8 → is_erased rest ≡ true → HeadFits done rest
  fits-deletion : {id : ℕ} {rest : List ℕ} → id < 2 ^ 32 → (id ≡ reserved_id → ⊥) → length rest ≡ 8 → is_erased rest ≡ true → HeadFits (deletion id) rest
  fits-small : {id len : ℕ} {rest : List ℕ} → id < 2 ^ 32 → (id ≡ reserved_id → ⊥) → 1 ≤ len → len ≤ 8 → length rest ≡ 8 → is_erased (drop len rest) ≡ true → HeadFits (value id len) rest
  fits-long : {id len : ℕ} {rest : List ℕ} → id < 2 ^ 32 → (id ≡ reserved_id → ⊥) → 8 < len → len < 2 ^ 16 → length rest ≡ 4 → HeadFits (value id len) rest

-- An entry that can stand in a sector: every entry that is read is one, and so is every entry that is made.
pub record IsProper (e : Entry) : Type 0 where
  pub fits : HeadFits e.head e.inline
  pub bytes : Each (λ b. b < 256) e.inline
  pub counted : length e.blocks ≡ data_of e.head
  pub blocks : Each IsBlock e.blocks

-- a store that lies within the image
pub record IsInside (B S : ℕ) (s : Store) : Type 0 where
  pub sector : s.sector < S
  pub block : s.block < B
  pub bytes : IsBlock s.bytes

-- The events: what a sector shows after its close, after one more entry, and after it was reopened.
abbrev pub closed_view : View → View
closed_view v = record { led = v.led; cycle = v.cycle; closed = true; entries = v.entries }

abbrev pub added_view : Entry → View → View
added_view e v = record { led = v.led; cycle = v.cycle; closed = v.closed; entries = v.entries ++ (e ∷ []) }

abbrev pub reopened_view : View → View
reopened_view v = record { led = true; cycle = next_cycle v.cycle; closed = false; entries = [] }

-- one sector's view changed
abbrev pub changed : (View → View) → ℕ → List View → List View
changed f s views = set views s (f (view_at views s))

-- A step that changes what the image shows at once, with its last store: cut before it, nothing shows.
pub record IsAtomic (B S : ℕ) (plan : Plan) (im : Image) (after : List View) : Type 0 where
  pub some : 1 ≤ length (plan im)
  pub inside : Each (IsInside B S) (plan im)
  pub cut : (k : ℕ) → k < length (plan im) → views_of B (apply (take k (plan im)) im) ≡ views_of B im
  pub whole : views_of B (apply (plan im) im) ≡ after
