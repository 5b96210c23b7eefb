-- The sizes of a store: how many blocks a sector has, how many sectors there are, and which bytes have that size.
use Rattle.std.specs.Prelude.{◌≡◌, List, ℕ, ◌*◌, ◌/◌, length, Option, Some, None, if◌then◌else◌}
use Rattle.rules.specs.Ground.{block_size, legal_sizes}
use Rattle.layout.specs.declared.Geometry.{Geometry}

-- B and S
abbrev pub blocks_of : Geometry → ℕ
blocks_of g = g.blocks

abbrev pub sectors_of : Geometry → ℕ
sectors_of g = g.sectors

abbrev pub sizes_in : Geometry → ℕ × ℕ
sizes_in g = (blocks_of g, sectors_of g)

-- B and S of a sector size, a count of sectors and an image's length, if they are legal
unfoldable pub sizes_of : (sector_size count image_length : ℕ) → Option (ℕ × ℕ)
sizes_of size count len = if legal_sizes size count len then Some (size / block_size, count) else None

-- the bytes are an image of this geometry: exactly S x B x 16 of them
pub record Backs (g : Geometry) (bytes : List ℕ) : Type 0 where
  pub sized : length bytes ≡ sectors_of g * (blocks_of g * block_size)
