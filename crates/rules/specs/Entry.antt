-- "The entry, little-endian": the fields of a block, and the 16 bytes of each kind.
use Rattle.std.specs.Prelude.{List, ◌∷◌, ◌++◌, ℕ, ◌-◌, length, get_or, take, drop}
use Rattle.rules.specs.Notation.{bytes_of, number_of, erased}
use Rattle.rules.specs.Ground.{Block, reserved_id}
use Rattle.rules.specs.Checksum.{crc8}

-- byte 0: CRC-8 of bytes 1 to 15
unfoldable pub check_of : Block → ℕ
check_of block = get_or block 0 0

-- byte 1: cycle counter
unfoldable pub cycle_of : Block → ℕ
cycle_of block = get_or block 1 0

-- bytes 2-3: length
unfoldable pub length_of : Block → ℕ
length_of block = number_of (take 2 (drop 2 block))

-- bytes 4-7: ID
unfoldable pub id_of : Block → ℕ
id_of block = number_of (take 4 (drop 4 block))

-- bytes 8-15: a value of 1 to 8 bytes, then FF; or
unfoldable pub body_of : Block → List ℕ
body_of block = drop 8 block

-- data offset (4)
unfoldable pub offset_of : Block → ℕ
offset_of block = number_of (take 4 (drop 8 block))

-- and CRC-32 of the value (4)
unfoldable pub crc32_of : Block → ℕ
crc32_of block = number_of (take 4 (drop 12 block))

-- bytes 1 to 15, and those with their CRC-8 in front
unfoldable pub fields : (cycle length id : ℕ) → (body : List ℕ) → List ℕ
fields cycle len id body = cycle ∷ (bytes_of 2 len ++ (bytes_of 4 id ++ body))

unfoldable pub sealed : List ℕ → Block
sealed bytes = crc8 bytes ∷ bytes

unfoldable pub encode : (cycle length id : ℕ) → (body : List ℕ) → Block
encode cycle len id body = sealed (fields cycle len id body)

-- a body of two numbers
unfoldable pub numbers : ℕ → ℕ → List ℕ
numbers a b = bytes_of 4 a ++ bytes_of 4 b

-- "ID FFFFFFFF, length FFFF, bytes 8-11 zero, bytes 12-15 the number 00004201"
abbrev pub lead_length : ℕ
lead_length = 0xFFFF

abbrev pub lead_mark : ℕ
lead_mark = 0x00004201

unfoldable pub lead_block : (cycle : ℕ) → Block
lead_block cycle = encode cycle lead_length reserved_id (numbers 0 lead_mark)

-- "the sector's cycle, ID FFFFFFFF, length 0, bytes 8-15 FF"
unfoldable pub close_block : (cycle : ℕ) → Block
close_block cycle = encode cycle 0 reserved_id (erased 8)

-- "the same bytes as close, but in an entry block"
unfoldable pub done_block : (cycle : ℕ) → Block
done_block cycle = close_block cycle

-- "sector's cycle, other ID, length 0, bytes 8-15 FF"
unfoldable pub deletion_block : (cycle id : ℕ) → Block
deletion_block cycle id = encode cycle 0 id (erased 8)

-- a value of 1 to 8 bytes
unfoldable pub small_value_block : (cycle id : ℕ) → List ℕ → Block
small_value_block cycle id value = encode cycle (length value) id (value ++ erased (8 - length value))

-- a value of more bytes, which lie at the offset
unfoldable pub long_value_block : (cycle id length offset crc : ℕ) → Block
long_value_block cycle id len offset crc = encode cycle len id (numbers offset crc)
