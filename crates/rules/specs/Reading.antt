-- "Reading a sector": its entries, oldest first, and the block that ended the reading.
use Rattle.std.specs.Prelude.{Bool, false, List, [], ◌∷◌, ℕ, zero, suc, ◌-◌, ltb, length, get_or, take, drop, if◌then◌else◌}
use Rattle.rules.specs.Ground.{Block, Sector}
use Rattle.rules.specs.Entry.{cycle_of, body_of}
use Rattle.rules.specs.Look.{Head, done, deletion, value, Scan, start, after, data_of, is_lead, is_close, Verdict, entry, blank, other_cycle, wrong_check, wrong_form, over_limit, look}

-- "value of 1 to 8 bytes, then FF; or data offset (4) and CRC-32 of the value (4)"
unfoldable pub is_long : Head → Bool
is_long done = false
is_long (deletion id) = false
is_long (value id len) = ltb 8 len

-- An entry with its contents, so that a copy of it elsewhere is the same entry: its head; bytes 8-15 as they lie, of a long
-- value only bytes 12-15, its CRC-32, since its offset goes by its place; and its data blocks as they lie.
pub record Entry : Type 0 where
  pub head : Head
  pub inline : List ℕ
  pub blocks : List Block

-- the entry whose head stands in block p of a sector, after what was read before it
unfoldable pub entry_at : Sector → (p : ℕ) → Scan → Head → Entry
entry_at sector p scan head =
    let body : List ℕ = body_of (get_or sector p []) in
    record { head = head; inline = if is_long head then drop 4 body else body; blocks = take (data_of head) (drop scan.data_end sector) }

-- "entries are taken from block B-3 downward and the reading ends at the first block that isn't an entry by these rules":
-- here from the block below p
unfoldable pub entries_below : (B cycle : ℕ) → Sector → (p : ℕ) → Scan → List Entry
entries_below B cycle sector zero scan = []
entries_below B cycle sector (suc p) scan =
    elim (look B cycle scan (get_or sector p [])) [
      | entry head ↦ entry_at sector p scan head ∷ entries_below B cycle sector p (after scan head)
      | blank ↦ []
      | other_cycle ↦ []
      | wrong_check ↦ []
      | wrong_form ↦ []
      | over_limit ↦ []
    ]

unfoldable pub entries_of : (B cycle : ℕ) → Sector → List Entry
entries_of B cycle sector = entries_below B cycle sector (B - 2) start

-- what entries come to, from a state on
unfoldable pub after_all : Scan → List Entry → Scan
after_all scan [] = scan
after_all scan (e ∷ es) = after_all (after scan e.head) es

-- the block below the entries that were read, which ended the reading; and the verdict on it
unfoldable pub end_block : (B : ℕ) → List Entry → ℕ
end_block B entries = B - 3 - length entries

unfoldable pub end_verdict : (B cycle : ℕ) → Sector → List Entry → Verdict
end_verdict B cycle sector entries = look B cycle (after_all start entries) (get_or sector (end_block B entries) [])

-- What a sector shows: whether its lead is right, its cycle, whether its close is present, and its entries, oldest first.
pub record View : Type 0 where
  pub led : Bool
  pub cycle : ℕ
  pub closed : Bool
  pub entries : List Entry

unfoldable pub view_of : (B : ℕ) → Sector → View
view_of B sector =
    let cycle : ℕ = cycle_of (get_or sector (B - 1) []) in
    record { led = is_lead (get_or sector (B - 1) []); cycle = cycle; closed = is_close cycle (get_or sector (B - 2) []); entries = entries_of B cycle sector }
