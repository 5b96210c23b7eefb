-- The crate's types beside the plain data of the rules: `..Of` reads one as the other, `..As` gives the answer for it.
use Rattle.std.specs.Prelude.{◌≡◌, Bool, true, false, List, [], ℕ, ◌<◌, length, set, if◌then◌else◌, Option, option_map}
use Rattle.std.proofs.Math.Option as rule
use Rattle.rules.specs.Ground.{image_of}
use Rattle.rules.specs.Look.{done, start}
use Rattle.rules.specs.Reading.{Entry, View, after_all}
use Rattle.rules.specs.Meaning.{State, at_rest, not_reopened, mid_turn, views_of, view_at}
use Rattle.layout.specs.declared.Geometry.{Geometry}
use Rattle.layout.specs.declared.image.Image.{Image}
use Rattle.layout.specs.Geometry.{blocks_of, sectors_of}
use Rattle.layout.specs.Numbers.{sector_no, sector_at}
use Rattle.layout.specs.Options.{option_as}
use Rattle.entry.specs.Answer.{scan_as}
use Rattle.sector.specs.declared.Class.{Class}
use Rattle.sector.specs.declared.Class.TheVariants as class
use Rattle.image.specs.declared.Status.{Status}
use Rattle.image.specs.declared.Status.TheVariants as status
use Rattle.image.specs.declared.active.Active.{Active}

abbrev pub status_of : Status → State
status_of (status.Rest w) = at_rest (sector_no w)
status_of (status.NotReopened w) = not_reopened (sector_no w)
status_of (status.MidTurn u) = mid_turn (sector_no u)

abbrev pub status_at : State → Status
status_at (at_rest w) = status.Rest (sector_at w)
status_at (not_reopened w) = status.NotReopened (sector_at w)
status_at (mid_turn u) = status.MidTurn (sector_at u)

-- the answer of a survey: none where there is no store
abbrev pub status_as : rule.Option State → Option Status
status_as o = option_map status_at (option_as o)

-- what the sectors of these bytes show
abbrev pub views_in : Geometry → List ℕ → List View
views_in g bytes = views_of (blocks_of g) (image_of (blocks_of g) (sectors_of g) bytes)

-- what those of an image show
abbrev pub views : Image → List View
views image = views_in image.geometry image.bytes.now

-- what is carried of sector s, which shows this
abbrev pub active_as : (s : ℕ) → View → Active
active_as s view =
    record { sector = sector_at s; cycle = view.cycle; entries = length view.entries; scan = scan_as (after_all start view.entries) }

-- What is carried is that of a sector of the image.
pub record Carries (g : Geometry) (bytes : List ℕ) (active : Active) : Type 0 where
  pub inside : sector_no active.sector < sectors_of g
  pub told : active ≡ active_as (sector_no active.sector) (view_at (views_in g bytes) (sector_no active.sector))

-- the two classes that have a mask
abbrev pub is_working_class : Class → Bool
is_working_class class.Closed = false
is_working_class class.Working = true
is_working_class class.Unfinished = false

abbrev pub is_unfinished_class : Class → Bool
is_unfinished_class class.Closed = false
is_unfinished_class class.Working = false
is_unfinished_class class.Unfinished = true

-- the flags with that of sector s set, where it belongs in the class
abbrev pub marked : Bool → (s : ℕ) → List Bool → List Bool
marked belongs s flags = if belongs then set flags s true else flags

-- what stands where no entry is
abbrev pub no_entry : Entry
no_entry = record { head = done; inline = []; blocks = [] }
