-- The tables of some entries: the newest one of each bucket, and for each entry the next older one of its bucket.
use Rattle.std.specs.Prelude.{◌≡◌, List, ℕ, ◌≤◌, ◌<◌, length, get_or}
use Rattle.rules.specs.Reading.{Entry}
use Rattle.rules.specs.Meaning.{view_at}
use Rattle.rules.specs.Stores.{id_in}
use Rattle.layout.specs.declared.Sector.{Sector}
use Rattle.layout.specs.declared.image.Image.{Image}
use Rattle.layout.specs.Numbers.{sector_no}
use Rattle.mask.specs.Marks.{max_marks}
use Rattle.image.specs.Answer.{views, no_entry}
use Rattle.index.specs.Buckets.{bucket_of, last_in, link_to}

-- the entries of a sector of an image
abbrev pub entries_at : Image → Sector → List Entry
entries_at image s = (view_at (views image) (sector_no s)).entries

-- The tables are those of the first `count` entries, with as many places as all of them can take. Free: the links of the places from
-- `count` on.
pub record Indexes (size : ℕ) (entries : List Entry) (count : ℕ) (heads links : List ℕ) : Type 0 where
  pub some : 0 < size
  pub most : size ≤ max_marks
  pub fits : length entries ≤ size
  pub few : count ≤ length entries
  pub buckets : length heads ≡ size
  pub room : length links ≡ size
  pub newest : (b : ℕ) → b < size → get_or heads b 0 ≡ link_to (last_in size b count entries)
  pub older : (n : ℕ) → n < count → get_or links n 0 ≡ link_to (last_in size (bucket_of size (id_in (get_or entries n no_entry).head)) n entries)
