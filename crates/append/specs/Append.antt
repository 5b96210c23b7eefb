-- An append by its parts, in the sector that is carried.
use Rattle.std.specs.Prelude.{List, [], ◌∷◌, ◌++◌, ℕ, ◌+◌, ◌-◌, ◌≤◌}
use Rattle.rules.specs.Ground.{Block, Image, block_at}
use Rattle.rules.specs.Look as rule
use Rattle.rules.specs.Reading.{Entry}
use Rattle.rules.specs.Stores.{Store, blank_if, kind_of, done_entry, deletion_entry, value_entry}
use Rattle.layout.specs.Numbers.{sector_no}
use Rattle.entry.specs.declared.Head.{Head}
use Rattle.entry.specs.declared.Head.TheVariants as head
use Rattle.entry.specs.declared.new_entry.NewEntry.{NewEntry}
use Rattle.entry.specs.Answer.{scan_of, scan_as, head_of, Small}
use Rattle.image.specs.declared.active.Active.{Active}

-- what is carried of a sector after one more entry of this head
abbrev pub with_entry : Active → rule.Head → Active
with_entry active head =
    record { sector = active.sector; cycle = active.cycle; entries = active.entries + 1; scan = scan_as (rule.after (scan_of active.scan) head) }

-- the entry of this head, a value having these bytes
abbrev pub entry_for : Head → List ℕ → Entry
entry_for head.Done value = done_entry
entry_for (head.Deletion id) value = deletion_entry id
entry_for (head.Value id len) value = value_entry id value

-- the entry of the rules that is to be appended
abbrev pub entry_of : NewEntry → Entry
entry_of entry = entry_for entry.head entry.value.now

-- the data blocks of a value, whatever its ID
abbrev pub value_blocks : List ℕ → List Block
value_blocks bytes = (value_entry 0 bytes).blocks

-- the block that the next entry would take
abbrev pub next_block : (B : ℕ) → Active → ℕ
next_block B active = B - 3 - active.entries

-- the look-ahead: that block is blanked if it would read as an entry
unfoldable pub ahead_stores : (B : ℕ) → Active → Image → List Store
ahead_stores B active im =
    let s : ℕ = sector_no active.sector in
    let b : ℕ = next_block B active in
    blank_if (rule.is_entry (rule.look B active.cycle (scan_of active.scan) (block_at im s b))) s b

-- "then, if the next block down would read as an entry after this one, blank it (look-ahead); then the entry", whose bytes are
-- given
unfoldable pub entry_stores : (B : ℕ) → Active → rule.Head → Block → Image → List Store
entry_stores B active head bytes im =
    ahead_stores B (with_entry active head) im
    ++ (record { sector = sector_no active.sector; block = next_block B active; kind = kind_of head; bytes = bytes } ∷ [])

-- A block is left below an entry of this head, and what the sector comes to after it is small.
pub record Fits (B : ℕ) (active : Active) (head : Head) : Type 0 where
  pub few : active.entries + 4 ≤ B
  pub before : Small active.scan
  pub after : Small (scan_as (rule.after (scan_of active.scan) (head_of head)))
