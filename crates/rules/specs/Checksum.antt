-- Both checksums of "The entry", over one step for a bit.
use Rattle.std.specs.Prelude.{List, [], ◌∷◌, ℕ, ◌*◌, ◌-◌, ◌/◌, ◌%◌, ltb, eqb, if◌then◌else◌}
use Rattle.std.specs.Int.Bits.{bit_xor}
use Rattle.rules.specs.Notation.{times}

-- A CRC of a list of bytes: each byte is xored in, and then the step for a bit is made eight times.
unfoldable pub crc : (step : ℕ → ℕ) (start : ℕ) → List ℕ → ℕ
crc step c [] = c
crc step c (b ∷ bs) = crc step (times 8 step (bit_xor c b)) bs

-- "polynomial 07, start 0, not reflected, no final xor"
unfoldable pub step8 : ℕ → ℕ
step8 c = if ltb c 0x80 then c * 2 else bit_xor (c * 2 - 0x100) 0x07

unfoldable pub crc8 : List ℕ → ℕ
crc8 bytes = crc step8 0 bytes

-- "the common IEEE one": polynomial 04C11DB7, here reflected, start and final xor FFFFFFFF
unfoldable pub step32 : ℕ → ℕ
step32 c = if eqb (c % 2) 0 then c / 2 else bit_xor (c / 2) 0xEDB88320

unfoldable pub crc32 : List ℕ → ℕ
crc32 bytes = bit_xor (crc step32 0xFFFFFFFF bytes) 0xFFFFFFFF
