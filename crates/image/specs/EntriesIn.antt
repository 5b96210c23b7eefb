-- What an entry of an image is, where it lies.
use Rattle.std.specs.Prelude.{◌-◌, get_or}
use Rattle.rules.specs.Ground.{Block, block_at}
use Rattle.rules.specs.Reading.{Entry}
use Rattle.rules.specs.Meaning.{view_at}
use Rattle.layout.specs.Numbers.{sector_no}
use Rattle.layout.specs.Geometry.{blocks_of}
use Rattle.layout.specs.Image.{sectors_in}
use Rattle.image.specs.declared.entries.EntryAt.{EntryAt}
use Rattle.image.specs.Answer.{views, no_entry}

-- its block
abbrev pub block_of : EntryAt → Block
block_of e = block_at (sectors_in e.image) (sector_no e.sector) (blocks_of e.image.geometry - 3 - e.number)

-- what it says
abbrev pub entry_of : EntryAt → Entry
entry_of e = get_or (view_at (views e.image) (sector_no e.sector)).entries e.number no_entry
