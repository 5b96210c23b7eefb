-- The sector that is ignored where live values are found.
use Rattle.std.specs.Prelude.{ℕ}
use Rattle.rules.specs.Meaning.{next}
use Rattle.layout.specs.Numbers.{sector_no}
use Rattle.layout.specs.Geometry.{sectors_of}
use Rattle.live.specs.declared.counts.Counted.{Counted}

-- the one after the newest
abbrev pub ignored : Counted → ℕ
ignored c = next (sectors_of c.image.geometry) (sector_no c.newest)
