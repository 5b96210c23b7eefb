-- The newest entry of an ID, by the number of its sector and its number there; and the crate's answers for it.
use Rattle.std.specs.Prelude.{List, ℕ, zero, suc, ◌-◌, length, get_or, if◌then◌else◌, Option, Some, None, option_map}
use Rattle.std.proofs.Math.Option as rule
use Rattle.rules.specs.Notation.{when}
use Rattle.rules.specs.Reading.{Entry, View}
use Rattle.rules.specs.Meaning.{view_at, next, ring_sector, is_named, is_value}
use Rattle.layout.specs.declared.Sector.{Sector}
use Rattle.layout.specs.declared.image.Image.{Image}
use Rattle.layout.specs.Geometry.{sectors_of}
use Rattle.layout.specs.Numbers.{sector_at}
use Rattle.image.specs.Answer.{views, no_entry}

-- the number of the last entry that names the ID, 0 being the oldest: of the first n entries, and of all
unfoldable pub last_named_below : (id n : ℕ) → List Entry → Option ℕ
last_named_below id zero entries = None
last_named_below id (suc n) entries = if is_named id (get_or entries n no_entry).head then Some n else last_named_below id n entries

unfoldable pub last_named : (id : ℕ) → List Entry → Option ℕ
last_named id entries = last_named_below id (length entries) entries

-- the entry in sector s, if there is one; else what the older sectors have
unfoldable pub in_sector : (s : ℕ) → Option ℕ → (older : Option (ℕ × ℕ)) → Option (ℕ × ℕ)
in_sector s None older = older
in_sector s (Some n) older = Some (s, n)

-- The newest entry of the ID in the first k sectors after u, round the ring: its sector and its number there.
unfoldable pub seek : (id S u k : ℕ) → List View → Option (ℕ × ℕ)
seek id S u zero views = None
seek id S u (suc k) views =
    in_sector (ring_sector S u k) (last_named id (view_at views (ring_sector S u k)).entries) (seek id S u k views)

-- in an image at rest, w being its working sector: the spare after it is left out
abbrev pub sought_in : Image → (w id : ℕ) → Option (ℕ × ℕ)
sought_in image w id = let S = sectors_of image.geometry in seek id S (next S w) (S - 1) (views image)

-- "The newest entry of an ID tells: value, or absent": what the entry there tells
unfoldable pub told_at : List View → Option (ℕ × ℕ) → rule.Option Entry
told_at views None = rule.none
told_at views (Some place) =
    let e : Entry = get_or (view_at views place.0).entries place.1 no_entry in
    when (is_value e.head) e

-- the answer: a place with its sector
abbrev pub newest_as : Option (ℕ × ℕ) → Option (Sector × ℕ)
newest_as = option_map (λ (place : ℕ × ℕ). (sector_at place.0, place.1))
