-- The bounds of a store's sizes.
use Rattle.std.specs.Prelude.{ℕ, ◌≤◌}
use Rattle.rules.specs.Ground.{min_sectors, max_sectors}

-- of the blocks of a sector and the count of sectors
pub record Sound (blocks sectors : ℕ) : Type 0 where
  pub blocks_from : 8 ≤ blocks
  pub blocks_to : blocks ≤ 4096
  pub sectors_from : min_sectors ≤ sectors
  pub sectors_to : sectors ≤ max_sectors
