-- An entry of a sector of an image where it lies: its block, and how many there can be.
-- Assumes nothing.
use mathlib.Core.Path.{◌≡◌, ap}
use mathlib.Core.List.{List, []}
use Prim.Native.Nat.{ℕ, ◌+◌, ◌-◌, ◌*◌, ◌<◌, ◌≤◌}
use native.Mathlib.Omega.{arith}
use lib.ListN.{length, get_or}
use Rattle.rules.specs.Ground.{Block, block_size, block_at, sector_of, image_of}
use Rattle.rules.specs.Reading.{view_of}
use Rattle.rules.specs.Meaning.{view_at}
use Rattle.rules.proofs.Format.Ground.{sector_bytes, sector-of-image, length-sector-bytes}
use Rattle.rules.proofs.Blocks.Lying.{LiesAt, lies_at}
use Rattle.layout.specs.declared.Geometry.{Geometry}
use Rattle.layout.specs.Geometry.{blocks_of, sectors_of, Backs}
use Rattle.mask.specs.Marks.{max_marks}
use Rattle.image.specs.Answer.{views_in, no_entry}
use Rattle.image.proofs.Sectors.{view-read}
use Rattle.image.proofs.Laws.{entries-counted}

-- the block of an entry
abbrev pub entry_block : (g : Geometry) (bytes : List ℕ) (s n : ℕ) → Block
entry_block g bytes s n = block_at (image_of (blocks_of g) (sectors_of g) bytes) s (blocks_of g - 3 - n)

-- the block by the sector's bytes
block_read : (g : Geometry) (bytes : List ℕ) (s n : ℕ) → s < sectors_of g
    → entry_block g bytes s n ≡ get_or (sector_of (blocks_of g) (sector_bytes (blocks_of g) bytes s)) (blocks_of g - 3 - n) []
unfolding block_at
block_read g bytes s n inside =
    ap (λ (sector : List Block). get_or sector (blocks_of g - 3 - n) []) (sector-of-image (blocks_of g) (sectors_of g) bytes s inside)

module _ (g : Geometry) (bytes : List ℕ) (backs : Backs g bytes) (s n : ℕ) (inside : s < sectors_of g)
    (here : n < length (view_at (views_in g bytes) s).entries) where
  -- it lies in its block
  pub entry-lies : LiesAt (sector_bytes (blocks_of g) bytes s) (blocks_of g - 3 - n) (entry_block g bytes s n) (get_or (view_at (views_in g bytes) s).entries n no_entry)
  unfolding view_of
  entry-lies =
      let B : ℕ = blocks_of g in
      let part : List ℕ = sector_bytes (blocks_of g) bytes s in
      let seen : view_at (views_in g bytes) s ≡ view_of B (sector_of B part) = view-read g bytes s inside in
      let sized : length part ≡ B * block_size = length-sector-bytes B (sectors_of g) bytes s inside backs.sized in
      rw (block_read g bytes s n inside, seen)
      (lies_at B _ part g.sound.blocks_from sized n no_entry (rw seen at here))

  pub entry-low : n + 3 ≤ blocks_of g
  entry-low = omega (arith, (entries-counted g bytes s inside).few)

-- ---- and there is a mark for each

pub entries-few : (g : Geometry) (bytes : List ℕ) (s : ℕ) → s < sectors_of g → length (view_at (views_in g bytes) s).entries < max_marks
entries-few g bytes s inside = omega (arith, (entries-counted g bytes s inside).few, g.sound.blocks_to)
