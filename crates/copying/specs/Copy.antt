-- A value as a copy takes it: by the fields of its entry's block, and the block's bytes at another place.
use Rattle.std.specs.Prelude.{List, ℕ, ◌*◌, ◌/◌, leb, get_or, take, drop, if◌then◌else◌}
use Rattle.rules.specs.Ground.{Block, block_size}
use Rattle.rules.specs.Entry.{length_of, id_of, offset_of, crc32_of, small_value_block, long_value_block}
use Rattle.rules.specs.Reading.{Entry, View}
use Rattle.rules.specs.Meaning.{view_at}
use Rattle.image.specs.Answer.{no_entry}
use Rattle.copying.specs.declared.Source.{Source}

-- entry n of sector s, 0 being the sector's oldest
abbrev pub entry_in : List View → (s n : ℕ) → Entry
entry_in views s n = get_or (view_at views s).entries n no_entry

-- the block at which the data of a value begins, if it has some
unfoldable pub first_of : Block → ℕ
first_of block = if leb (length_of block) 8 then 0 else offset_of block / block_size

abbrev pub source_as : Block → Source
source_as block = record { id = id_of block; length = length_of block; first = first_of block }

-- "with data blocks and CRC-32 as they lie": cycle and offset are those of the new place
unfoldable pub copy_of : (cycle data_end : ℕ) → Block → Block
copy_of cycle data_end block =
    if leb (length_of block) 8 then small_value_block cycle (id_of block) (take (length_of block) (drop 8 block))
    else long_value_block cycle (id_of block) (length_of block) (data_end * block_size) (crc32_of block)
