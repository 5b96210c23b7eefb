-- The crate's types beside the plain data of the rules: the answers for what a sector shows.
use Rattle.std.specs.Prelude.{Bool, List, ℕ, Option, Some, None, length, if◌then◌else◌}
use Rattle.rules.specs.Notation.{any}
use Rattle.rules.specs.Ground.{Sector}
use Rattle.rules.specs.Look.{start, is_done}
use Rattle.rules.specs.Reading.{Entry, View, view_of, entries_of, after_all, end_verdict}
use Rattle.rules.specs.Meaning.{has_done}
use Rattle.layout.specs.declared.image.SectorBytes.{SectorBytes}
use Rattle.layout.specs.Geometry.{blocks_of}
use Rattle.layout.specs.Image.{blocks_in}
use Rattle.entry.specs.Answer.{scan_as, reason_of}
use Rattle.sector.specs.declared.Entries.{Entries}
use Rattle.sector.specs.declared.Class.{Class}
use Rattle.sector.specs.declared.Class.TheVariants as class

-- what a sector shows
abbrev pub view_in : SectorBytes → View
view_in sector = view_of (blocks_of sector.geometry) (blocks_in sector)

-- the entries of a sector of this cycle
abbrev pub entries_as : (B cycle : ℕ) → Sector → Entries
entries_as B cycle sector =
    let es : List Entry = entries_of B cycle sector in
    record { count = length es; scan = scan_as (after_all start es); ended = reason_of (end_verdict B cycle sector es) }

-- is one of these a done?
abbrev pub has_done_among : List Entry → Bool
has_done_among es = any (λ (e : Entry). is_done e.head) es

-- the class of a sector that shows this, if it has a right lead
unfoldable pub class_as : View → Option Class
class_as view =
    if view.led
    then Some (if view.closed then class.Closed else if has_done view then class.Working else class.Unfinished)
    else None
