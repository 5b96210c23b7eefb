-- Which entries of a sector are live, and which have a later one of their ID: a flag an entry, the oldest first.
use Rattle.std.specs.Prelude.{Bool, not, ◌&&◌, List, [], ◌∷◌, ◌++◌, ℕ, Option, None}
use Rattle.rules.specs.Look.{Head, done, deletion, value}
use Rattle.rules.specs.Reading.{Entry, View}
use Rattle.rules.specs.Meaning.{view_at, entries_in, is_value, is_renewed, newer_than}
use Rattle.search.specs.Search.{last_named_below}

-- "A value is live if it is its ID's newest entry." Of some entries, with all that are later.
unfoldable pub live_flags : List Entry → (later : List Entry) → List Bool
live_flags [] later = []
live_flags (e ∷ es) later = (is_value e.head && not (is_renewed e.head (es ++ later))) ∷ live_flags es later

-- of the entries of sector s, u being the sector that is ignored
unfoldable pub live_flags_in : (u s : ℕ) → List View → List Bool
live_flags_in u s views = live_flags (view_at views s).entries (entries_in (newer_than u s views))

-- Has an entry a later one of its ID? Of some entries, with all that are later.
unfoldable pub renewed_flags : List Entry → (later : List Entry) → List Bool
renewed_flags [] later = []
renewed_flags (e ∷ es) later = is_renewed e.head (es ++ later) ∷ renewed_flags es later

-- of the entries of sector s, u being the sector that is ignored
unfoldable pub renewed_flags_in : (u s : ℕ) → List View → List Bool
renewed_flags_in u s views = renewed_flags (view_at views s).entries (entries_in (newer_than u s views))

-- the entry, of the first `count`, that an entry with this head renews: the last one of its ID
unfoldable pub renewed_by : Head → (count : ℕ) → List Entry → Option ℕ
renewed_by done count es = None
renewed_by (deletion i) count es = last_named_below i count es
renewed_by (value i len) count es = last_named_below i count es
