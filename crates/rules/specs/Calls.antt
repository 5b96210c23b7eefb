-- "Numbers given back": the five calls, their checks in order, their answers, and what they leave.
use Rattle.std.specs.Prelude.{List, [], ◌++◌, ℕ, ◌-◌, ◌/◌, eqb, leb, ltb, length, take, drop, if◌then◌else◌, cond}
use Rattle.std.proofs.Math.Option.{Option, none, some}
use Rattle.rules.specs.Notation.{is_empty}
use Rattle.rules.specs.Ground.{Image, legal_sizes, image_of, block_size, reserved_id, kept_from_values, kept_from_deletions}
use Rattle.rules.specs.Look.{need_of}
use Rattle.rules.specs.Reading.{Entry}
use Rattle.rules.specs.Meaning.{State, at_rest, not_reopened, mid_turn, views_of, state_of, history, lookup, length_in, value_of, is_sound}
use Rattle.rules.specs.Stores as stores
use Rattle.rules.specs.Stores.{Store, apply_bytes, least_turns, change, value_entry, deletion_entry}

-- "Numbers 1 to 10 are refusals"
pub data Refusal : Type 0 where
  geometry no_store unfinished reserved empty too_long no_room absent bad_data : Refusal
  short_buffer : (length : ℕ) → Refusal

-- What is due: a refusal, or stores and turns.
pub data Due : Type 0 where
  refuse : Refusal → Due
  make : List Store → (turns : ℕ) → Due

-- What a format, mount, write or delete answers.
pub data Answer : Type 0 where
  done : (stores turns : ℕ) → Answer
  cut : (stores : ℕ) → Answer
  refused : Refusal → Answer

-- 11 cut: "allowance below the stores due"
unfoldable pub answer : Due → (budget : ℕ) → Answer
answer (refuse r) budget = refused r
answer (make stores turns) budget = if leb (length stores) budget then done (length stores) turns else cut budget

-- "They make the first so many of their stores, and stop."
unfoldable pub made : Due → (budget : ℕ) → List Store
made (refuse r) budget = []
made (make stores turns) budget = take budget stores

-- What a read answers.
pub data Reply : Type 0 where
  found : Entry → Reply
  refused : Refusal → Reply

-- 2 no store: "none of the three states"; 3 unfinished: "a store but not at rest (read, write, delete)"
unfoldable pub in_state {ℓ} : {A : Type ℓ} → Option State → (Refusal → A) → (State → A) → A
in_state none refusal call = refusal no_store
in_state (some state) refusal call = call state

unfoldable pub in_rest {ℓ} : {A : Type ℓ} → Option State → (Refusal → A) → ((w : ℕ) → A) → A
in_rest none refusal call = refusal no_store
in_rest (some (at_rest w)) refusal call = call w
in_rest (some (not_reopened w)) refusal call = refusal unfinished
in_rest (some (mid_turn u)) refusal call = refusal unfinished

-- The calls on an image of legal sizes. "Format can give 0, 1 and 11"
unfoldable pub format_on : (B S : ℕ) → Image → Due
format_on B S im = make (stores.format B S) 0

-- "a mount gives 1 when it began mid-turn, else 0"
unfoldable pub mount_turns : State → ℕ
mount_turns (at_rest w) = 0
mount_turns (not_reopened w) = 0
mount_turns (mid_turn u) = 1

unfoldable pub mount_on : (B S : ℕ) → Image → Due
mount_on B S im = in_state (state_of (views_of B im)) refuse (λ state. make (stores.mount B S state im) (mount_turns state))

-- 7 no room: "no t from 0 to S-1 fits"
unfoldable pub change_on : (B S w limit : ℕ) → Entry → Image → Due
change_on B S w limit e im =
    elim (least_turns (need_of e.head) limit w (views_of B im)) [
      | none ↦ refuse no_room
      | some turns ↦ make (change B S turns w e im) turns
    ]

-- 4 reserved: "ID FFFFFFFF"; 5 empty: "length 0"; 6 too long: "need above B-5"
unfoldable pub write_on : (B S : ℕ) → Image → (id : ℕ) → List ℕ → Due
write_on B S im id value =
    if eqb id reserved_id then refuse reserved
    else if is_empty value then refuse empty
    else if ltb (B - kept_from_values) (need_of (value_entry id value).head) then refuse too_long
    else in_rest (state_of (views_of B im)) refuse (λ w. change_on B S w (B - kept_from_values) (value_entry id value) im)

-- 8 absent: "read or delete finds no value"
unfoldable pub delete_on : (B S : ℕ) → Image → (id : ℕ) → Due
delete_on B S im id =
    if eqb id reserved_id then refuse reserved
    else in_rest (state_of (views_of B im)) refuse
    (λ w.
    elim (lookup id (history (at_rest w) (views_of B im))) [
      | none ↦ refuse absent
      | some e ↦ change_on B S w (B - kept_from_deletions) (deletion_entry id) im
    ])

-- 10 short buffer: "buffer below the length", before 9 bad data: "CRC-32 of the value read differs"
unfoldable pub read_entry : (buffer_length : ℕ) → Option Entry → Reply
read_entry buffer_length none = refused absent
read_entry buffer_length (some e) =
    if ltb buffer_length (length_in e.head) then refused (short_buffer (length_in e.head))
    else if is_sound e then found e
    else refused bad_data

unfoldable pub read_on : (B S : ℕ) → Image → (id buffer_length : ℕ) → Reply
read_on B S im id buffer_length =
    if eqb id reserved_id then refused reserved
    else in_rest (state_of (views_of B im)) refused (λ w. read_entry buffer_length (lookup id (history (at_rest w) (views_of B im))))

-- 1 geometry: "sizes, count or image length off"
unfoldable pub at_sizes {ℓ} : {A : Type ℓ} → (size count : ℕ) → List ℕ → (Refusal → A) → ((B S : ℕ) → Image → A) → A
at_sizes size count bytes refusal call =
    cond (legal_sizes size count (length bytes)) (call (size / block_size) count (image_of (size / block_size) count bytes)) (refusal geometry)

-- The five calls.
unfoldable pub format_due : (size count : ℕ) → List ℕ → Due
format_due size count bytes = at_sizes size count bytes refuse (λ B S im. format_on B S im)

unfoldable pub mount_due : (size count : ℕ) → List ℕ → Due
mount_due size count bytes = at_sizes size count bytes refuse (λ B S im. mount_on B S im)

unfoldable pub write_due : (size count : ℕ) → List ℕ → (id : ℕ) → List ℕ → Due
write_due size count bytes id value = at_sizes size count bytes refuse (λ B S im. write_on B S im id value)

unfoldable pub delete_due : (size count : ℕ) → List ℕ → (id : ℕ) → Due
delete_due size count bytes id = at_sizes size count bytes refuse (λ B S im. delete_on B S im id)

unfoldable pub read : (size count : ℕ) → List ℕ → (id buffer_length : ℕ) → Reply
read size count bytes id buffer_length = at_sizes size count bytes refused (λ B S im. read_on B S im id buffer_length)

-- "buffer's first bytes the value, rest unchanged"
unfoldable pub buffer_after : Reply → List ℕ → List ℕ
buffer_after (found e) buffer = value_of e ++ drop (length_in e.head) buffer
buffer_after (refused r) buffer = buffer

-- The paper's numbers for each answer. "Numbers a row doesn't name are 0."
pub record Numbers : Type 0 where
  pub number : ℕ
  pub stores : ℕ
  pub turns : ℕ
  pub length : ℕ

unfoldable pub refusal_number : Refusal → ℕ
refusal_number geometry = 1
refusal_number no_store = 2
refusal_number unfinished = 3
refusal_number reserved = 4
refusal_number empty = 5
refusal_number too_long = 6
refusal_number no_room = 7
refusal_number absent = 8
refusal_number bad_data = 9
refusal_number (short_buffer len) = 10

unfoldable pub length_told : Refusal → ℕ
length_told geometry = 0
length_told no_store = 0
length_told unfinished = 0
length_told reserved = 0
length_told empty = 0
length_told too_long = 0
length_told no_room = 0
length_told absent = 0
length_told bad_data = 0
length_told (short_buffer len) = len

unfoldable pub answer_numbers : Answer → Numbers
answer_numbers (done stores turns) = record { number = 0; stores = stores; turns = turns; length = 0 }
answer_numbers (cut stores) = record { number = 11; stores = stores; turns = 0; length = 0 }
answer_numbers (refused r) = record { number = refusal_number r; stores = 0; turns = 0; length = length_told r }

unfoldable pub reply_numbers : Reply → Numbers
reply_numbers (found e) = record { number = 0; stores = 0; turns = 0; length = length_in e.head }
reply_numbers (refused r) = record { number = refusal_number r; stores = 0; turns = 0; length = length_told r }

-- the bytes of the image after what was made of what is due
unfoldable pub leaves : (size : ℕ) → Due → (budget : ℕ) → List ℕ → List ℕ
leaves size due budget bytes = apply_bytes (size / block_size) (made due budget) bytes
