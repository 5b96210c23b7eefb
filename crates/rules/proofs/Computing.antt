-- What is shown by computing: one hub that opens every definition, and worked examples on 2 sectors of 8 blocks.
use Prim.Native.Nat.{ℕ}
use Rattle.rules.specs.Notation.{when, times, pieces, bytes_of, number_of, erased, is_erased, concat, is_empty, any, all, select, places_from}
use Rattle.rules.specs.Ground.{legal_sizes, sector_of, image_of, blank_block, block_at, store, place_of, store_bytes, Block, Sector, Image, reserved_id}
use Rattle.rules.specs.Checksum.{crc, step8, crc8, step32, crc32}
use Rattle.rules.specs.Entry.{check_of, cycle_of, length_of, id_of, body_of, offset_of, crc32_of, fields, sealed, encode, numbers, lead_block, close_block, done_block, small_value_block}
use Rattle.rules.specs.Look.{is_checked, is_lead, is_close, data_blocks, data_of, need_of, is_done, start, after, form_of, head_of, is_within, judge, look, is_entry, lead_cycle}
use Rattle.rules.specs.Reading.{is_long, entry_at, entries_below, entries_of, after_all, end_block, view_of, View}
use Rattle.rules.specs.Meaning.{views_of, has_done, is_working, is_unfinished, next, no_view, view_at, state_by, state_of, all_but, ending_at, counting, entries_in, history, is_named, is_value, changes_of, newest_value, lookup, length_in, value_of, is_sound, is_renewed, live_among, live_each, needs_of, at_rest, not_reopened, mid_turn}
use Rattle.rules.specs.Stores.{apply, nothing, ◌and_then◌, id_in, entry_block, kind_of, data_stores, blank_store, blank_if, append, append_all, next_cycle, reopen, close_sector, done_entry, survivors, finish_turn, turn, turns, moved, mount, first_fit, least_turns, change, value_entry, deletion_entry, final_store, final_blocks, final_sectors, format, apply_bytes, Kind, lead, close, done, value, blank, Store}
use Rattle.rules.specs.Calls.{answer, made, in_state, in_rest, mount_turns, mount_on, change_on, write_on, delete_on, read_entry, read_on, format_on, at_sizes, format_due, mount_due, write_due, delete_due, read, buffer_after, refusal_number, length_told, answer_numbers, reply_numbers, leaves, Refusal, reserved, empty, too_long, no_room, Due, refuse, make, Reply, found}
use Rattle.rules.specs.Demands.{budget, due, empty_model, assign, model_after, step, run, views}
use mathlib.Core.List.{List, [], ◌∷◌, ◌++◌, map}
use mathlib.Core.Option.{none}
use mathlib.Core.Path.{◌≡◌, refl}
use lib.ListN.{replicate}

-- all definitions opened at once: `unfolding computing` lets a statement compute
unfoldable pub computing : ℕ
unfolding when times pieces bytes_of number_of erased is_erased concat is_empty any all select places_from
    legal_sizes sector_of image_of blank_block block_at store
    crc step8 crc8 step32 crc32
    check_of cycle_of length_of id_of body_of offset_of crc32_of fields sealed encode numbers lead_block close_block done_block
    is_checked is_lead is_close data_blocks data_of need_of is_done start after form_of head_of is_within judge look
    is_long entry_at entries_below entries_of after_all end_block view_of
    views_of has_done is_working is_unfinished next no_view view_at state_by state_of all_but ending_at counting entries_in history is_named is_value changes_of newest_value lookup length_in value_of is_sound is_renewed live_among live_each needs_of
    apply nothing ◌and_then◌ id_in entry_block kind_of data_stores blank_store is_entry blank_if append append_all next_cycle reopen close_sector done_entry survivors finish_turn turn turns moved mount first_fit least_turns change value_entry deletion_entry final_store final_blocks final_sectors format
    answer made in_state in_rest mount_turns mount_on change_on write_on delete_on read_entry read_on
    budget place_of store_bytes small_value_block lead_cycle apply_bytes format_on at_sizes format_due mount_due write_due delete_due read buffer_after refusal_number length_told answer_numbers reply_numbers leaves due empty_model assign model_after step run views
computing = 0

-- a line a store: sector, block, kind
data Line : Type 0 where
  line : (sector block : ℕ) → Kind → Line

lines : List Store → List Line
lines ss = map (λ (s : Store). line s.sector s.block s.kind) ss

data Trace : Type 0 where
  refuses : Refusal → Trace
  makes : List Line → (turns : ℕ) → Trace

trace : Due → Trace
trace (refuse r) = refuses r
trace (make ss turns) = makes (lines ss) turns

-- the IDs of what is stored
ids : Due → List ℕ
ids (refuse r) = []
ids (make ss turns) = map (λ (s : Store). id_of s.bytes) ss

-- a value of 8 bytes, in a block of cycle 1
eight : ℕ → List ℕ
eight b = replicate 8 b

of : (id byte : ℕ) → Block
of id b = small_value_block 1 id (eight b)

-- a sector by its blocks from 7, the lead, down to 2
sector : (lead close b5 b4 b3 b2 : Block) → Sector
sector b7 b6 b5 b4 b3 b2 = blank_block ∷ blank_block ∷ b2 ∷ b3 ∷ b4 ∷ b5 ∷ b6 ∷ b7 ∷ []

spare : Sector
spare = sector (lead_block 1) blank_block blank_block blank_block blank_block blank_block

-- at rest, with these three entries after done in sector 0
at_rest_with : (first second third : Block) → Image
at_rest_with a b c = sector (lead_block 1) blank_block (done_block 1) a b c ∷ spare ∷ []

-- ---- turns

-- "the least number of turns after which it fits": none while the open sector has room
first-write : trace (write_on 8 2 (at_rest_with blank_block blank_block blank_block) 7 (eight 1)) ≡ makes (line 0 4 value ∷ []) 0
unfolding computing trace lines at_rest_with spare sector eight
first-write = refl

-- the fourth write of an ID: close, copies, done, reopening, and then the entry
fourth-write : trace (write_on 8 2 (at_rest_with (of 7 1) (of 7 2) (of 7 3)) 7 (eight 4))
    ≡ makes (line 0 6 close ∷ line 1 5 value ∷ line 1 4 done ∷ line 0 7 lead ∷ line 1 3 value ∷ []) 1
unfolding computing trace lines at_rest_with spare sector of eight
fourth-write = refl

-- "append to N+1 the live values of N+2, oldest first": of 5, 6 and 5 again, 6 is the older
oldest-first : ids (write_on 8 2 (at_rest_with (of 5 1) (of 6 2) (of 5 3)) 5 (eight 4)) ≡ reserved_id ∷ 6 ∷ 5 ∷ reserved_id ∷ reserved_id ∷ 5 ∷ []
unfolding computing ids at_rest_with spare sector of eight
oldest-first = refl

-- "An ID's old value counts as live until the new entry stands"; and without room no turn is made
no_room_lem : trace (write_on 8 2 (at_rest_with (of 1 1) (of 2 2) (of 3 3)) 1 (eight 4)) ≡ refuses no_room
unfolding computing trace lines at_rest_with spare sector of eight
no_room_lem = refl

-- a mount in mid-turn, one copy made: "reopen the unfinished sector, then the turn from its first copy on"
mount-mid-turn : trace (mount_on 8 2 (sector (lead_block 1) (close_block 1) (done_block 1) (of 7 1) (of 7 2) (of 7 3) ∷ sector (lead_block 1) blank_block (of 7 3) blank_block blank_block blank_block ∷ []))
    ≡ makes (line 1 7 lead ∷ line 1 5 value ∷ line 1 4 done ∷ line 0 7 lead ∷ []) 1
unfolding computing trace lines sector of eight
mount-mid-turn = refl

-- ---- blocks that would read

-- "if the next block down would read as an entry after this one, blank it (look-ahead); then the entry"
look-ahead : lines (append 8 0 (value_entry 7 (eight 1)) (at_rest_with blank_block (of 9 5) blank_block)) ≡ line 0 3 blank ∷ line 0 4 value ∷ []
unfolding computing lines at_rest_with spare sector of eight
look-ahead = refl

-- the cycle byte alone does not make it one
no-look-ahead : lines (append 8 0 (value_entry 7 (eight 1)) (at_rest_with blank_block (replicate 16 1) blank_block)) ≡ line 0 4 value ∷ []
unfolding computing lines at_rest_with spare sector eight
no-look-ahead = refl

-- "blank B-2 if it would read as close under the new cycle; blank B-3 if it would read as an entry under it"
reopening : lines (reopen 8 0 (sector (lead_block 1) (close_block 2) (small_value_block 2 9 (eight 5)) blank_block blank_block blank_block ∷ [])) ≡ line 0 6 blank ∷ line 0 5 blank ∷ line 0 7 lead ∷ []
unfolding computing lines sector eight
reopening = refl

-- "255 going to 0"
wrapped : next_cycle 255 ≡ 0
unfolding computing
wrapped = refl

-- ---- the order of the checks, on any image: no store, a store that is not at rest, or one at rest

-- 4 before 2 and 3, and before 5 and 6
reserved-first : (im : Image) (bytes : List ℕ) → write_on 8 2 im reserved_id bytes ≡ refuse reserved
unfolding computing
reserved-first im bytes = refl

reserved-delete : (im : Image) → delete_on 8 2 im reserved_id ≡ refuse reserved
unfolding computing
reserved-delete im = refl

reserved-read : (im : Image) (buffer_length : ℕ) → read_on 8 2 im reserved_id buffer_length ≡ Reply.refused reserved
unfolding computing
reserved-read im buffer_length = refl

-- 5 before 2 and 3
empty-first : (im : Image) → write_on 8 2 im 7 [] ≡ refuse empty
unfolding computing
empty-first im = refl

-- 6 before 2 and 3: 33 bytes in a sector of 128
too-long-first : (im : Image) (byte : ℕ) → write_on 8 2 im 7 (replicate 33 byte) ≡ refuse too_long
unfolding computing
too-long-first im byte = refl

-- ---- what is told

-- age in a ring of three: from the sector after the ignored one round to the newest
module _ (a b c : View) where
  age-at-rest : history (at_rest 1) (a ∷ b ∷ c ∷ []) ≡ a.entries ++ (b.entries ++ [])
  unfolding computing
  age-at-rest = refl

  age-done : history (not_reopened 1) (a ∷ b ∷ c ∷ []) ≡ c.entries ++ (a.entries ++ (b.entries ++ []))
  unfolding computing
  age-done = refl

  age-mid-turn : history (mid_turn 1) (a ∷ b ∷ c ∷ []) ≡ c.entries ++ (a.entries ++ [])
  unfolding computing
  age-mid-turn = refl

-- "The newest entry of an ID tells: value, or absent."
deleted : lookup 7 (value_entry 7 (eight 1) ∷ deletion_entry 7 ∷ value_entry 8 (eight 2) ∷ []) ≡ none
unfolding computing eight
deleted = refl

-- "buffer's first bytes the value, rest unchanged"
buffer-after : buffer_after (found (value_entry 7 (eight 3))) (replicate 10 9) ≡ eight 3 ++ (9 ∷ 9 ∷ [])
unfolding computing eight
buffer-after = refl
