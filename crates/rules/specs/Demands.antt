-- "The plain book of demand 3", and demand 2's read-back, as statements about the five calls.
use Rattle.std.specs.Prelude.{◌≡◌, true, List, [], ◌∷◌, ◌++◌, ◌↔◌, ℕ, ◌+◌, ◌-◌, ◌/◌, ◌<◌, ◌≤◌, ◌^◌, eqb, length, get_or, drop, if◌then◌else◌}
use Rattle.std.proofs.Math.Option.{Option, none, some}
use Rattle.rules.specs.Notation.{Each}
use Rattle.rules.specs.Ground.{image_of, block_size, reserved_id, kept_from_values}
use Rattle.rules.specs.Look.{value, need_of}
use Rattle.rules.specs.Reading.{Entry, View}
use Rattle.rules.specs.Meaning.{State, at_rest, not_reopened, mid_turn, views_of, view_at, state_of, next, history, lookup, value_of, is_sound, live_in, needs_of}
use Rattle.rules.specs.Stores.{moved}
use Rattle.rules.specs.Calls.{Due, answer, Numbers, answer_numbers, reply_numbers, buffer_after, format_due, mount_due, write_due, delete_due, read, leaves}

-- "Its list holds mounts, writes and deletes with any ID, value and allowance"
pub data Call : Type 0 where
  mount : (budget : ℕ) → Call
  write : (id : ℕ) → List ℕ → (budget : ℕ) → Call
  delete : (id budget : ℕ) → Call

-- Numbers that a caller can pass: IDs and budgets of 32 bits, and bytes. A budget is the paper's allowance.
unfoldable pub IsId : ℕ → Type 0
IsId id = id < 2 ^ 32

unfoldable pub IsBudget : ℕ → Type 0
IsBudget a = a < 2 ^ 32

-- the largest budget
abbrev pub plenty : ℕ
plenty = 4294967295

unfoldable pub AreBytes : List ℕ → Type 0
AreBytes bytes = Each (λ b. b < 256) bytes

pub data Typed : Call → Type 0 where
  mounts : {a : ℕ} → IsBudget a → Typed (mount a)
  writes : {id : ℕ} {bytes : List ℕ} {a : ℕ} → IsId id → AreBytes bytes → IsBudget a → Typed (write id bytes a)
  deletes : {id a : ℕ} → IsId id → IsBudget a → Typed (delete id a)

unfoldable pub due : (size count : ℕ) → List ℕ → Call → Due
due size count image (mount a) = mount_due size count image
due size count image (write id bytes a) = write_due size count image id bytes
due size count image (delete id a) = delete_due size count image id

unfoldable pub budget : Call → ℕ
budget (mount a) = a
budget (write id bytes a) = a
budget (delete id a) = a

-- The reference model is the paper's plain book. "The book is fed each call's arguments and its answer number, and nothing
-- of the image. For each ID but FFFFFFFF it keeps a value or nothing, at first nothing. A write that answers 0 puts its
-- bytes there; a delete that answers 0, nothing. Mounts and all other answers, 11 too, leave it alone."
abbrev pub Model : Type 0
Model = ℕ → Option (List ℕ)

unfoldable pub empty_model : Model
empty_model id = none

unfoldable pub assign : Model → (id : ℕ) → Option (List ℕ) → Model
assign model id entry i = if eqb i id then entry else model i

unfoldable pub model_after : Call → (number : ℕ) → Model → Model
model_after (mount a) number model = model
model_after (write id bytes a) number model = if eqb number 0 then assign model id (some bytes) else model
model_after (delete id a) number model = if eqb number 0 then assign model id none else model

-- the image and the model after a list of calls
pub record Run : Type 0 where
  pub image : List ℕ
  pub model : Model

unfoldable pub step : (size count : ℕ) → Run → Call → Run
step size count state call =
    let what : Due = due size count state.image call in
    record { image = leaves size what (budget call) state.image; model = model_after call (answer_numbers (answer what (budget call))).number state.model }

unfoldable pub run : (size count : ℕ) → Run → List Call → Run
run size count state [] = state
run size count state (call ∷ rest) = run size count (step size count state call) rest

-- "each ID but FFFFFFFF"
unfoldable pub IsUser : ℕ → Type 0
IsUser id = IsId id × (id ≡ reserved_id → ⊥)

unfoldable pub views : (size count : ℕ) → List ℕ → List View
views size count image = views_of (size / block_size) (image_of (size / block_size) count image)

-- "the newest entry tells the book's value, its CRC-32, if it has one, right; absent where the book has nothing"
pub data Matches : Option Entry → Option (List ℕ) → Type 0 where
  matches_nothing : Matches none none
  matches_value : {e : Entry} → is_sound e ≡ true → Matches (some e) (some (value_of e))

-- the paper's numbers of an answer
unfoldable pub gives : (number stores turns length : ℕ) → Numbers
gives number stores turns len = record { number = number; stores = stores; turns = turns; length = len }

-- What a read of a lent buffer gives, and the buffer after it, by what is kept: "the book's value (10 if the buffer is
-- short), or 8 where the book has nothing"; "buffer's first bytes the value, rest unchanged".
pub data ReadsAs (buffer : List ℕ) : Option (List ℕ) → Numbers → (after : List ℕ) → Type 0 where
  reads_nothing : ReadsAs buffer none (gives 8 0 0 0) buffer
  reads_short : {v : List ℕ} → length buffer < length v → ReadsAs buffer (some v) (gives 10 0 0 (length v)) buffer
  reads_value : {v : List ℕ} → length v ≤ length buffer → ReadsAs buffer (some v) (gives 0 0 0 (length v)) (v ++ drop (length v) buffer)

unfoldable pub Reads : (size count : ℕ) → List ℕ → (id : ℕ) → Option (List ℕ) → Type 0
Reads size count image id entry =
    (buffer : List ℕ)
    → ReadsAs buffer entry (reply_numbers (read size count image id (length buffer))) (buffer_after (read size count image id (length buffer)) buffer)

-- A call that is not refused: with allowance enough it gives 0 and at most so many turns, "or 11 if cut". There is an
-- allowance that is enough.
pub record Succeeds (what : Due) (most : ℕ) : Type 0 where
  pub stores : ℕ
  pub turns : ℕ
  pub few : turns ≤ most
  pub enough : IsBudget stores
  pub whole : (a : ℕ) → stores ≤ a → answer_numbers (answer what a) ≡ gives 0 stores turns 0
  pub short : (a : ℕ) → a < stores → answer_numbers (answer what a) ≡ gives 11 a 0 0

-- "A write of another ID than FFFFFFFF, length 1 or more and need at most B-5"
pub record IsWritable (size id : ℕ) (bytes : List ℕ) : Type 0 where
  pub user : IsUser id
  pub typed : AreBytes bytes
  pub filled : 1 ≤ length bytes
  pub fits : need_of (value id (length bytes)) ≤ size / block_size - kept_from_values

-- "its need added to the open sector's needs is above B-5, and so is its need added to the live needs (those of live
-- values) of each sector but the spare"
pub record IsFull (size count : ℕ) (image : List ℕ) (w need : ℕ) : Type 0 where
  pub working : size / block_size - kept_from_values < needs_of (view_at (views size count image) w).entries + need
  pub others : (s : ℕ) → s < count → (s ≡ next count w → ⊥)
      → size / block_size - kept_from_values < needs_of (live_in (next count w) s (views size count image)) + need

-- First point: "The image is a store. For each ID but FFFFFFFF the newest entry tells the book's value".
pub record IsStore (size count : ℕ) (image : List ℕ) (model : Model) : Type 0 where
  pub state : State
  pub is : state_of (views size count image) ≡ some state
  pub matches : (id : ℕ) → IsUser id → Matches (lookup id (history state (views size count image))) (model id)

-- Second and third point, of the image that the mount leaves: "an image at rest that tells the same values";
pub record AtRest (size count : ℕ) (image : List ℕ) (model : Model) : Type 0 where
  pub working : ℕ
  pub is : state_of (views size count image) ≡ some (at_rest working)
  pub matches : (id : ℕ) → IsUser id → Matches (lookup id (history (at_rest working) (views size count image))) (model id)
  -- "Reads of these IDs then give the book's value (10 if the buffer is short), or 8 where the book has nothing."
  pub reads : (id : ℕ) → IsUser id → Reads size count image id (model id)
  -- "gives 7 exactly when" there is no room, whatever the allowance
  pub refuses : (id : ℕ) (bytes : List ℕ) (a : ℕ) → IsWritable size id bytes
      → (answer_numbers (answer (write_due size count image id bytes) a) ≡ gives 7 0 0 0) ↔ IsFull size count image working (need_of (value id (length bytes)))
  -- "Otherwise it gives 0, turns below S, or 11 if cut."
  pub writes : (id : ℕ) (bytes : List ℕ) → IsWritable size id bytes
      → (IsFull size count image working (need_of (value id (length bytes))) → ⊥) → Succeeds (write_due size count image id bytes) (count - 1)
  -- "A delete of an ID with a value in the book gives 0, turns at most 1, or 11 if cut."
  pub deletes : (id : ℕ) (bytes : List ℕ) → IsUser id → model id ≡ some bytes → Succeeds (delete_due size count image id) 1

-- Second point: "A mount with allowance enough answers 0, turns 0 or 1, and leaves an image at rest".
pub record Mounts (size count : ℕ) (image : List ℕ) (model : Model) : Type 0 where
  pub succeeds : Succeeds (mount_due size count image) 1
  pub rests : (a : ℕ) → succeeds.stores ≤ a → AtRest size count (leaves size (mount_due size count image) a image) model

pub record Holds (size count : ℕ) (state : Run) : Type 0 where
  pub store : IsStore size count state.image state.model
  pub mount : Mounts size count state.image state.model

-- Demand 3: "It starts after a format that gave 0, on whatever bytes. It is a single claim about the list".
unfoldable pub Demand3 : Type 0
Demand3 =
    (size count : ℕ) (bytes : List ℕ) (a : ℕ) (list : List Call)
    → AreBytes bytes → Each Typed list
    → (answer_numbers (answer (format_due size count bytes) a)).number ≡ 0
    → Holds size count (run size count (record { image = leaves size (format_due size count bytes) a bytes; model = empty_model }) list)

-- Demand 2's read-back, of every image at rest, reachable or not. After a call that answered 0 an ID reads as it was
-- written, or as absent, and every other ID as before, 9 included.
pub record IsReadBack (size count : ℕ) (before after : List ℕ) (id : ℕ) (entry : Option (List ℕ)) : Type 0 where
  pub changed : Reads size count after id entry
  pub others : (other buffer_length : ℕ) → (other ≡ id → ⊥) → read size count after other buffer_length ≡ read size count before other buffer_length

unfoldable pub ReadBack : Type 0
ReadBack =
    (size count : ℕ) (image : List ℕ) (id : ℕ) (bytes : List ℕ) (a : ℕ)
    → AreBytes image → IsId id → AreBytes bytes
    → (answer_numbers (answer (write_due size count image id bytes) a)).number ≡ 0
    → IsReadBack size count image (leaves size (write_due size count image id bytes) a image) id (some bytes)

unfoldable pub DeleteBack : Type 0
DeleteBack =
    (size count : ℕ) (image : List ℕ) (id a : ℕ)
    → AreBytes image → IsId id
    → (answer_numbers (answer (delete_due size count image id) a)).number ≡ 0
    → IsReadBack size count image (leaves size (delete_due size count image id) a image) id none

-- "turns show in the image": the working sector has moved round the ring by the turns told.
unfoldable pub TurnsShow : Type 0
TurnsShow =
    (size count : ℕ) (image : List ℕ) (call : Call) (w : ℕ)
    → AreBytes image → Typed call
    → state_of (views size count image) ≡ some (at_rest w)
    → (answer_numbers (answer (due size count image call) (budget call))).number ≡ 0
    → state_of (views size count (leaves size (due size count image call) (budget call) image))
    ≡ some (at_rest (moved count (answer_numbers (answer (due size count image call) (budget call))).turns w))

-- What a mount that answered 0 tells and leaves, of any image of the three states, reachable or not: its turns, the sector
-- that works then, and that each ID tells what these entries told.
pub record IsMounted (size count : ℕ) (told : Numbers) (after : List ℕ) (turns_made w : ℕ) (kept : List Entry) : Type 0 where
  pub turns : told.turns ≡ turns_made
  pub rests : state_of (views size count after) ≡ some (at_rest w)
  pub keeps : (id : ℕ) → lookup id (history (at_rest w) (views size count after)) ≡ lookup id kept

-- "rest, nothing. Done, not reopened: reopen the working sector's successor": then each ID tells what all sectors but that
-- one told, and their entries are what the history at rest has (that of the state itself counts the successor too). "Mid-turn:
-- reopen the unfinished sector, then the turn"; "a mount gives 1 when it began mid-turn, else 0".
unfoldable pub MountedFrom : (size count : ℕ) → State → (before : List ℕ) → Numbers → (after : List ℕ) → Type 0
MountedFrom size count (at_rest w) before told after = IsMounted size count told after 0 w (history (at_rest w) (views size count before))
MountedFrom size count (not_reopened w) before told after = IsMounted size count told after 0 w (history (at_rest w) (views size count before))
MountedFrom size count (mid_turn u) before told after = IsMounted size count told after 1 u (history (mid_turn u) (views size count before))

unfoldable pub MountShows : Type 0
MountShows =
    (size count : ℕ) (image : List ℕ) (a : ℕ) (state : State)
    → AreBytes image → state_of (views size count image) ≡ some state
    → (answer_numbers (answer (mount_due size count image) a)).number ≡ 0
    → MountedFrom size count state image (answer_numbers (answer (mount_due size count image) a)) (leaves size (mount_due size count image) a image)

-- "at most one block may differ" on an allowance of 1: outside so many blocks, counted from the start of the image, every
-- byte stands.
pub record FewDiffer (a : ℕ) (before after : List ℕ) : Type 0 where
  pub blocks : List ℕ
  pub few : length blocks ≤ a
  pub sized : length after ≡ length before
  pub others : (i : ℕ) → Each (λ (b : ℕ). i / block_size ≡ b → ⊥) blocks → get_or after i 0 ≡ get_or before i 0
