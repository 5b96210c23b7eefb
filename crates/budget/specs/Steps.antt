-- Parts of the steps that the rules put together.
use Rattle.std.specs.Prelude.{◌++◌, ℕ, ◌-◌}
use Rattle.rules.specs.Ground.{block_at}
use Rattle.rules.specs.Look.{look, start, is_entry, is_close}
use Rattle.rules.specs.Stores.{Plan, blank_if}

-- of a reopening, the blankings: the blocks that would read under the new cycle
abbrev pub stale_blanks : (B s cycle : ℕ) → Plan
stale_blanks B s cycle im =
    blank_if (is_close cycle (block_at im s (B - 2))) s (B - 2)
    ++ blank_if (is_entry (look B cycle start (block_at im s (B - 3)))) s (B - 3)
