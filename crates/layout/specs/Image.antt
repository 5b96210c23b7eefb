-- What a lent image, and a lent sector, hold.
use Rattle.rules.specs.Ground as rule
use Rattle.layout.specs.Geometry.{blocks_of, sectors_of}
use Rattle.layout.specs.declared.image.Image.{Image}
use Rattle.layout.specs.declared.image.SectorBytes.{SectorBytes}

-- its sectors
abbrev pub sectors_in : Image → rule.Image
sectors_in image = rule.image_of (blocks_of image.geometry) (sectors_of image.geometry) image.bytes.now

-- its blocks
abbrev pub blocks_in : SectorBytes → rule.Sector
blocks_in sector = rule.sector_of (blocks_of sector.geometry) sector.bytes.now
