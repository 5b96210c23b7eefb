-- A reopening is its blankings and then the lead.
-- Assumes nothing.
use mathlib.Core.Path.{◌≡◌}
use mathlib.Core.List.{[], ◌∷◌, ◌++◌}
use Prim.Native.Nat.{ℕ, ◌-◌}
use lib.ListN.{get_or}
use Rattle.rules.specs.Ground.{Image}
use Rattle.rules.specs.Entry.{lead_block}
use Rattle.rules.specs.Reading.{view_of}
use Rattle.rules.specs.Stores as rule
use Rattle.rules.specs.Stores.{Store, next_cycle, reopen}
use Rattle.budget.specs.Steps.{stale_blanks}

-- the lead of this cycle
abbrev pub lead_store : (B s cycle : ℕ) → Store
lead_store B s cycle = record { sector = s; block = B - 1; kind = rule.lead; bytes = lead_block cycle }

pub reopen-by : (B s : ℕ) (im : Image) {old cycle : ℕ} → old ≡ (view_of B (get_or im s [])).cycle → cycle ≡ next_cycle old
    → stale_blanks B s cycle im ++ (lead_store B s cycle ∷ []) ≡ reopen B s im
unfolding reopen
reopen-by B s im known next = rw (next, known)
