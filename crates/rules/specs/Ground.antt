-- "The ground": sizes, sectors and blocks, and what a store is.
use Rattle.std.specs.Prelude.{Bool, ◌&&◌, List, [], map, ℕ, ◌+◌, ◌*◌, ◌%◌, get_or, take, drop, set, leb, eqb}
use Rattle.std.proofs.lemmas.List.Edits.{sets}
use Rattle.rules.specs.Notation.{pieces, erased}

-- The numbers of the format.
abbrev pub block_size : ℕ
block_size = 16

abbrev pub min_sector_size : ℕ
min_sector_size = 128

abbrev pub max_sector_size : ℕ
max_sector_size = 65536

abbrev pub min_sectors : ℕ
min_sectors = 2

abbrev pub max_sectors : ℕ
max_sectors = 64

-- blocks kept back from values, and from deletions
abbrev pub kept_from_values : ℕ
kept_from_values = 5

abbrev pub kept_from_deletions : ℕ
kept_from_deletions = 4

-- the ID that no value has
abbrev pub reserved_id : ℕ
reserved_id = 0xFFFFFFFF

-- "Sector size is a multiple of 16, from 128 to 65,536 bytes (B from 8 to 4,096). There are S sectors, 2 to 64 [..]. The
-- image is exactly S x B x 16 bytes."
unfoldable pub legal_sizes : (sector_size count image_length : ℕ) → Bool
legal_sizes size count len =
    eqb (size % block_size) 0
    && leb min_sector_size size
    && leb size max_sector_size
    && leb min_sectors count
    && leb count max_sectors
    && eqb len (count * size)

-- A block is its 16 bytes, a sector its blocks from 0 to B-1, an image its sectors from 0 to S-1.
abbrev pub Block : Type 0
Block = List ℕ

abbrev pub Sector : Type 0
Sector = List Block

abbrev pub Image : Type 0
Image = List Sector

-- the bytes of a sector, or of a whole image, cut into blocks
unfoldable pub sector_of : (B : ℕ) → List ℕ → Sector
sector_of B bytes = pieces B block_size bytes

unfoldable pub image_of : (B S : ℕ) → List ℕ → Image
image_of B S bytes = map (sector_of B) (pieces S (B * block_size) bytes)

-- "Blank is sixteen bytes FF."
unfoldable pub blank_block : Block
blank_block = erased block_size

-- block b of sector s
unfoldable pub block_at : Image → (s b : ℕ) → Block
block_at im s b = get_or (get_or im s []) b []

-- "A store sets one whole block."
unfoldable pub store : Image → (s b : ℕ) → Block → Image
store im s b block = set im s (set (get_or im s []) b block)

-- The same two on the bytes: where block b of sector s begins, its bytes, and the image after a store.
unfoldable pub place_of : (B s b : ℕ) → ℕ
place_of B s b = (s * B + b) * block_size

unfoldable pub block_bytes : (B : ℕ) → List ℕ → (s b : ℕ) → Block
block_bytes B bytes s b = take block_size (drop (place_of B s b) bytes)

unfoldable pub store_bytes : (B : ℕ) → List ℕ → (s b : ℕ) → Block → List ℕ
store_bytes B bytes s b block = sets bytes (place_of B s b) block
