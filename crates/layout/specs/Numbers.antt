-- Sector numbers, block numbers and byte places, as the numbers that they are.
use Rattle.std.specs.Prelude.{ℕ}
use Rattle.layout.specs.declared.Sector.{Sector}
use Rattle.layout.specs.declared.Block.{Block}
use Rattle.layout.specs.declared.Place.{Place}

-- a sector number, and the sector of a number
abbrev pub sector_no : Sector → ℕ
sector_no s = s.0

abbrev pub sector_at : ℕ → Sector
sector_at n = record { 0 = n }

-- a block number within its sector, and the block of a number
abbrev pub block_no : Block → ℕ
block_no b = b.0

abbrev pub block_numbered : ℕ → Block
block_numbered n = record { 0 = n }

-- a byte place, and the place of a number
abbrev pub place_no : Place → ℕ
place_no p = p.0

abbrev pub place_at : ℕ → Place
place_at n = record { 0 = n }
