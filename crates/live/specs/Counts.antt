-- The entries of each sector, counted.
use Rattle.std.specs.Prelude.{◌≡◌, List, ℕ, ◌<◌, length, get_or, set}
use Rattle.rules.specs.Reading.{View}
use Rattle.rules.specs.Meaning.{view_at}
use Rattle.live.specs.declared.counts.EntryCounts.{EntryCounts}

-- what is counted for sector s
abbrev pub count_of : EntryCounts → (s : ℕ) → ℕ
count_of counts s = get_or counts.0 s 0

-- How many entries each sector has, at its number. Free: the places behind the last sector.
pub record Counts (views : List View) (counts : EntryCounts) : Type 0 where
  pub each : (s : ℕ) → s < length views → count_of counts s ≡ length (view_at views s).entries

-- after a turn: sector u has n entries, sector o none
abbrev pub counts_turned : EntryCounts → (u o n : ℕ) → EntryCounts
counts_turned counts u o n = record { 0 = set (set counts.0 u n) o 0 }
