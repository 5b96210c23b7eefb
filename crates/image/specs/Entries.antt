-- An entry of an image where it lies.
use Rattle.std.specs.Prelude.{ℕ, ◌<◌, length}
use Rattle.rules.specs.Meaning.{view_at}
use Rattle.layout.specs.declared.Sector.{Sector}
use Rattle.layout.specs.declared.image.Image.{Image}
use Rattle.layout.specs.Numbers.{sector_no}
use Rattle.layout.specs.Geometry.{sectors_of}
use Rattle.image.specs.Answer.{views}

-- the sector is one of the image, and has an entry of this number
pub record IsEntry (image : Image) (sector : Sector) (number : ℕ) : Type 0 where
  pub sector_inside : sector_no sector < sectors_of image.geometry
  pub inside : number < length (view_at (views image) (sector_no sector)).entries
