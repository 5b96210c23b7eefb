-- What a block is, under the sector's cycle and after what was read before it in the sector.
use Rattle.std.specs.Prelude.{Bool, true, false, not, ◌&&◌, ◌||◌, ℕ, ◌+◌, ◌*◌, ◌-◌, ◌/◌, List, take, drop, leb, eqb, if◌then◌else◌}
use Rattle.std.proofs.Math.Option.{Option, none, some}
use Rattle.rules.specs.Notation.{when, number_of, is_erased}
use Rattle.rules.specs.Ground.{Block, block_size, kept_from_values, kept_from_deletions, reserved_id}
use Rattle.rules.specs.Checksum.{crc8}
use Rattle.rules.specs.Entry.{check_of, cycle_of, length_of, id_of, body_of, offset_of, crc32_of, lead_length, lead_mark}

-- "each also needing a right byte 0"
unfoldable pub is_checked : Block → Bool
is_checked block = eqb (check_of block) (crc8 (drop 1 block))

-- A lead, whose cycle byte is the sector's cycle.
unfoldable pub is_lead : Block → Bool
is_lead block =
    is_checked block
    && eqb (id_of block) reserved_id
    && eqb (length_of block) lead_length
    && eqb (offset_of block) 0
    && eqb (crc32_of block) lead_mark

unfoldable pub lead_cycle : Block → Option ℕ
lead_cycle block = when (is_lead block) (cycle_of block)

-- A close, in block B-2 of a sector of this cycle.
unfoldable pub is_close : (cycle : ℕ) → Block → Bool
is_close cycle block =
    eqb (cycle_of block) cycle
    && is_checked block
    && eqb (id_of block) reserved_id
    && eqb (length_of block) 0
    && is_erased (body_of block)

-- The head of an entry: its kind, and what the block itself says of it.
pub data Head : Type 0 where
  done : Head
  deletion : (id : ℕ) → Head
  value : (id length : ℕ) → Head

-- "A value longer than 8 takes length/16 data blocks, rounded up"
unfoldable pub data_blocks : (length : ℕ) → ℕ
data_blocks len = if leb len 8 then 0 else (len + 15) / block_size

unfoldable pub data_of : Head → ℕ
data_of done = 0
data_of (deletion id) = 0
data_of (value id len) = data_blocks len

-- "Need of a value is 1 plus its data blocks; of a deletion 1. [..] Done costs nothing in this sum."
unfoldable pub need_of : Head → ℕ
need_of done = 0
need_of (deletion id) = 1
need_of (value id len) = 1 + data_blocks len

unfoldable pub is_done : Head → Bool
is_done done = true
is_done (deletion id) = false
is_done (value id len) = false

-- What the entries before a block in its sector come to: their needs, their data blocks, and whether one is a done.
pub record Scan : Type 0 where
  pub needs : ℕ
  pub data_end : ℕ
  pub done : Bool

unfoldable pub start : Scan
start = record { needs = 0; data_end = 0; done = false }

unfoldable pub after : Scan → Head → Scan
after scan head = record { needs = scan.needs + need_of head; data_end = scan.data_end + data_of head; done = scan.done || is_done head }

-- The kinds by their fields, the cycle and byte 0 being right. "its offset is exactly 16 times the data blocks of the
-- entries before it in the sector"; "The FF after a short value is part of the rule".
unfoldable pub form_of : (data_end id length : ℕ) → (body : List ℕ) → Option Head
form_of data_end id len body =
    if eqb id reserved_id then when (eqb len 0 && is_erased body) done
    else if eqb len 0 then when (is_erased body) (deletion id)
    else if leb len 8 then when (is_erased (drop len body)) (value id len)
    else when (eqb (number_of (take 4 body)) (data_end * block_size)) (value id len)

unfoldable pub head_of : (data_end : ℕ) → Block → Option Head
head_of data_end block = form_of data_end (id_of block) (length_of block) (body_of block)

-- "A value entry counts only if the needs so far in this sector, its own included, are at most B-5; a deletion, at most
-- B-4"; done "at most one a sector".
unfoldable pub is_within : (B : ℕ) → Scan → Head → Bool
is_within B scan done = not scan.done
is_within B scan (deletion id) = leb (scan.needs + need_of (deletion id)) (B - kept_from_deletions)
is_within B scan (value id len) = leb (scan.needs + need_of (value id len)) (B - kept_from_values)

-- The verdict on a block: an entry, or the first reason that applies why it is none. (A blank block could be no entry
-- anyway: its ID would be the reserved one, and its length FFFF.)
pub data Verdict : Type 0 where
  entry : Head → Verdict
  blank other_cycle wrong_check wrong_form over_limit : Verdict

unfoldable pub is_entry : Verdict → Bool
is_entry (entry head) = true
is_entry blank = false
is_entry other_cycle = false
is_entry wrong_check = false
is_entry wrong_form = false
is_entry over_limit = false

unfoldable pub judge : (B : ℕ) → Scan → Option Head → Verdict
judge B scan none = wrong_form
judge B scan (some head) = if is_within B scan head then entry head else over_limit

unfoldable pub look : (B cycle : ℕ) → Scan → Block → Verdict
look B cycle scan block =
    if is_erased block then blank
    else if not (eqb (cycle_of block) cycle) then other_cycle
    else if not (is_checked block) then wrong_check
    else judge B scan (head_of scan.data_end block)
