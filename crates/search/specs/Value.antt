-- The value that an entry tells, by the place of its bytes in the image; and the crate's answers for it.
use Rattle.std.specs.Prelude.{Bool, true, List, ℕ, ◌+◌, ◌-◌, eqb, get_or, if◌then◌else◌, Option, Some, None}
use Rattle.rules.specs.Notation.{number_of}
use Rattle.rules.specs.Ground.{Image, block_at, place_of}
use Rattle.rules.specs.Checksum.{crc32}
use Rattle.rules.specs.Entry.{offset_of}
use Rattle.rules.specs.Look.{Head}
use Rattle.rules.specs.Reading.{Entry, is_long}
use Rattle.rules.specs.Meaning.{views_of, view_at, is_value, length_in}
use Rattle.layout.specs.Numbers.{place_at}
use Rattle.image.specs.Answer.{no_entry}
use Rattle.search.specs.declared.Found.{Found}

-- entry n of sector s
unfoldable pub entry_in : (B : ℕ) → Image → (s n : ℕ) → Entry
entry_in B im s n = get_or (view_at (views_of B im) s).entries n no_entry

-- where the bytes of its value begin: in bytes 8-15 of the entry; those of a long value at its offset in the sector
unfoldable pub value_place : (B : ℕ) → Image → (s n : ℕ) → Head → ℕ
value_place B im s n head =
    if is_long head then place_of B s 0 + offset_of (block_at im s (B - 3 - n)) else place_of B s (B - 3 - n) + 8

-- "CRC-32 of the value (4)", which only a long value has
unfoldable pub check_as : Entry → Option ℕ
check_as e = if is_long e.head then Some (number_of e.inline) else None

-- is the CRC-32 that goes with these bytes, if there is one, right?
unfoldable pub passes : Option ℕ → List ℕ → Bool
passes None value = true
passes (Some crc) value = eqb crc (crc32 value)

-- the value that entry n of sector s tells, where it lies
unfoldable pub found_at : (B : ℕ) → Image → (s n : ℕ) → Entry → Found
found_at B im s n e = record { place = place_at (value_place B im s n e.head); length = length_in e.head; check = check_as e }

-- "The newest entry of an ID tells: value, or absent"
unfoldable pub found_in : (B : ℕ) → Image → (s n : ℕ) → Option Found
found_in B im s n =
    let e : Entry = entry_in B im s n in
    if is_value e.head then Some (found_at B im s n e) else None

unfoldable pub found_as : (B : ℕ) → Image → Option (ℕ × ℕ) → Option Found
found_as B im None = None
found_as B im (Some place) = found_in B im place.0 place.1
