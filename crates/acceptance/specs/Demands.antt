-- The three demands, each as one claim about runs of the five calls. Where a bound is asked for, it is that of the
-- parameter's type: bytes below 256, IDs and allowances below 2^32.
use Rattle.std.specs.Prelude.{◌≡◌, true, List, [], ◌∷◌, ◌↔◌, ℕ, ◌-◌, ◌/◌, ◌<◌, ◌≤◌, length, take, None}
use Rattle.std.proofs.Math.Option.{Option, none, some}
use Rattle.rules.specs.Notation.{Each}
use Rattle.rules.specs.Ground.{block_size, legal_sizes}
use Rattle.rules.specs.Look as look
use Rattle.rules.specs.Look.{need_of}
use Rattle.rules.specs.Meaning.{State, at_rest, state_of, history, lookup}
use Rattle.rules.specs.Stores.{Store, apply_bytes, moved}
use Rattle.rules.specs.Calls as rule
use Rattle.rules.specs.Calls.{Due, make, Numbers, answer_numbers, reply_numbers}
use Rattle.rules.specs.Demands as rules
use Rattle.rules.specs.Demands.{Call, Typed, IsId, IsBudget, AreBytes, IsUser, Model, empty_model, model_after, views, Matches, ReadsAs, gives, IsWritable, IsFull, IsStore, MountedFrom, FewDiffer}
use Rattle.budget.specs.Budget.{last_of}
use Rattle.answer.specs.Answer.{answer_numbers_of, reply_numbers_of, last_in}
use Rattle.acceptance.specs.Runs.{Made, Reply, Formats, Mounts, Writes, Deletes, Reads, AsksNothing}

-- the paper's numbers of an answer
abbrev pub told : Made → Numbers
told r = answer_numbers_of r

-- A call that stores, its arguments given: image before, allowance, image after, answer.
abbrev pub Storing : Type 1
Storing = (before : List ℕ) (allowance : ℕ) (after : List ℕ) (r : Made) → Type 0

-- ---- Demand 1: any image and any request get one fixed answer; a refused call changes no byte.

-- 11 cut: "allowance below the stores due"
pub record IsCut (what : Due) (a : ℕ) : Type 0 where
  pub stores : List Store
  pub turns : ℕ
  pub due : what ≡ make stores turns
  pub short : a < length stores

pub record Pinned (size : ℕ) (due : (before : List ℕ) → Due) (run : Storing) : Type 0 where
  -- some answer meets the contract ..
  pub answered : (before : List ℕ) (a : ℕ) → (after : List ℕ) × (r : Made) × run before a after r
  -- .. and only one: "The answer, the image [..] follow from the inputs for every call, every allowance and every refusal."
  pub alike : {before : List ℕ} {a : ℕ} {after after' : List ℕ} {r r' : Made}
      → run before a after r → run before a after' r' → (r ≡ r') × (after ≡ after')
  -- "Numbers 1 to 10 are refusals": "nothing changed"
  pub refused : {before : List ℕ} {a : ℕ} {after : List ℕ} {r : Made}
      → run before a after r → 1 ≤ (told r).number → (told r).number ≤ 10 → after ≡ before
  -- "11 is none": "the first allowed stores made; gives stores equal to the allowance, turns 0"
  pub cut : {before : List ℕ} {a : ℕ} {after : List ℕ} {r : Made}
      → run before a after r → ((told r).number ≡ 11) ↔ IsCut (due before) a
  pub cut_after : {before : List ℕ} {a : ℕ} {after : List ℕ} {r : Made} → run before a after r → (c : IsCut (due before) a)
      → (told r ≡ gives 11 a 0 0) × (after ≡ apply_bytes (size / block_size) (take a c.stores) before)

-- A call changes at most as many blocks as it was allowed stores.
pub record ChangesFew (run : Storing) : Type 0 where
  pub few : {before : List ℕ} {a : ℕ} {after : List ℕ} {r : Made} → AreBytes before → run before a after r → FewDiffer a before after

-- What is pinned of a read: "the lent buffer after it".
pub record PinnedRead (size count id : ℕ) : Type 0 where
  pub answered : (image buffer : List ℕ) → (after : List ℕ) × (reply : Reply) × Reads size count image id buffer after reply
  pub alike : {image buffer after after' : List ℕ} {reply reply' : Reply}
      → Reads size count image id buffer after reply → Reads size count image id buffer after' reply' → (reply ≡ reply') × (after ≡ after')
  -- no number but 0 changes the buffer, and none the image
  pub refused : {image buffer after : List ℕ} {reply : Reply}
      → Reads size count image id buffer after reply → 1 ≤ (reply_numbers_of reply).number → after ≡ buffer
  pub untouched : {image buffer after : List ℕ} {reply : Reply} → (x : Reads size count image id buffer after reply) → x.image_after ≡ image

pub record Demand1 : Type 0 where
  pub asks : AsksNothing
  pub formats : (size count : ℕ) → Pinned size (rule.format_due size count) (Formats size count)
  pub mounts : (size count : ℕ) → Pinned size (rule.mount_due size count) (Mounts size count)
  pub writes : (size count id : ℕ) (value : List ℕ) → Pinned size (λ image. rule.write_due size count image id value) (Writes size count id value)
  pub deletes : (size count id : ℕ) → Pinned size (λ image. rule.delete_due size count image id) (Deletes size count id)
  pub reads : (size count id : ℕ) → PinnedRead size count id
  -- no answer of a write changes the value that it was lent
  pub value_untouched : {size count id : ℕ} {value before : List ℕ} {a : ℕ} {after : List ℕ} {r : Made}
      → (x : Writes size count id value before a after r) → x.value_after ≡ value
  pub format_few : (size count : ℕ) → ChangesFew (Formats size count)
  pub mount_few : (size count : ℕ) → ChangesFew (Mounts size count)
  pub write_few : (size count id : ℕ) (value : List ℕ) → IsId id → AreBytes value → ChangesFew (Writes size count id value)
  pub delete_few : (size count id : ℕ) → IsId id → ChangesFew (Deletes size count id)

-- ---- Demand 2: the calls answer and change the image exactly as the rules say; what is written reads back; each image that
-- mounts has one meaning.

-- "No promise says less than these rules settle: an equation where they settle the result". The last store gives the trace.
pub record Obeys (size : ℕ) (due : (before : List ℕ) → Due) (run : Storing) : Type 0 where
  pub answers : {before : List ℕ} {a : ℕ} {after : List ℕ} {r : Made}
      → run before a after r → told r ≡ answer_numbers (rule.answer (due before) a)
  pub leaves : {before : List ℕ} {a : ℕ} {after : List ℕ} {r : Made}
      → run before a after r → after ≡ rule.leaves size (due before) a before
  pub traces : {before : List ℕ} {a : ℕ} {after : List ℕ} {r : Made}
      → run before a after r → last_in r ≡ last_of None (rule.made (due before) a)

pub record ObeysRead (size count id : ℕ) : Type 0 where
  pub answers : {image buffer after : List ℕ} {reply : Reply} → Reads size count image id buffer after reply
      → reply_numbers_of reply ≡ reply_numbers (rule.read size count image id (length buffer))
  pub fills : {image buffer after : List ℕ} {reply : Reply} → Reads size count image id buffer after reply
      → after ≡ rule.buffer_after (rule.read size count image id (length buffer)) buffer

-- Between two images: the ID reads as this in the second, and every other ID as in the first, 9 included.
pub record ReadsBack (size count : ℕ) (before after : List ℕ) (id : ℕ) (entry : Option (List ℕ)) : Type 0 where
  pub changed : {buffer left : List ℕ} {reply : Reply}
      → Reads size count after id buffer left reply → ReadsAs buffer entry (reply_numbers_of reply) left
  pub others : {other : ℕ} {buffer left left' : List ℕ} {reply reply' : Reply} → (other ≡ id → ⊥)
      → Reads size count before other buffer left reply → Reads size count after other buffer left' reply' → (reply' ≡ reply) × (left' ≡ left)

-- What an image means follows from its bytes alone, and mounts and reads answer by it.
pub record OneMeaning (size count : ℕ) (image : List ℕ) : Type 0 where
  -- 2 no store: "none of the three states"
  pub no_store : {a : ℕ} {after : List ℕ} {r : Made}
      → Mounts size count image a after r → ((told r).number ≡ 2) ↔ (state_of (views size count image) ≡ none)
  -- A mount that answers 0 leaves an image at rest: the state says which sector works then, how many turns that took, and
  -- what each ID tells.
  pub rests : {state : State} {a : ℕ} {after : List ℕ} {r : Made}
      → state_of (views size count image) ≡ some state → Mounts size count image a after r → (told r).number ≡ 0 → MountedFrom size count state image (told r) after
  -- "The newest entry of an ID tells"
  pub newest : {w id : ℕ} {buffer after : List ℕ} {reply : Reply}
      → state_of (views size count image) ≡ some (at_rest w) → IsUser id → Reads size count image id buffer after reply
      → let found : rule.Reply = rule.read_entry (length buffer) (lookup id (history (at_rest w) (views size count image))) in
      (reply_numbers_of reply ≡ reply_numbers found) × (after ≡ rule.buffer_after found buffer)

-- "turns show in the image": "how far the working sector moved round the ring"
pub record ShowsTurns (size count : ℕ) (run : Storing) : Type 0 where
  pub moves : {before : List ℕ} {a w : ℕ} {after : List ℕ} {r : Made} → AreBytes before → IsBudget a
      → state_of (views size count before) ≡ some (at_rest w) → run before a after r → (told r).number ≡ 0
      → state_of (views size count after) ≡ some (at_rest (moved count (told r).turns w))

pub record Demand2 : Type 0 where
  pub formats : (size count : ℕ) → Obeys size (rule.format_due size count) (Formats size count)
  pub mounts : (size count : ℕ) → Obeys size (rule.mount_due size count) (Mounts size count)
  pub writes : (size count id : ℕ) (value : List ℕ) → Obeys size (λ image. rule.write_due size count image id value) (Writes size count id value)
  pub deletes : (size count id : ℕ) → Obeys size (λ image. rule.delete_due size count image id) (Deletes size count id)
  pub reads : (size count id : ℕ) → ObeysRead size count id
  -- of every image, reachable or not
  pub read_back : {size count id : ℕ} {value before : List ℕ} {a : ℕ} {after : List ℕ} {r : Made}
      → AreBytes before → IsId id → AreBytes value
      → Writes size count id value before a after r → (told r).number ≡ 0 → ReadsBack size count before after id (some value)
  pub delete_back : {size count id : ℕ} {before : List ℕ} {a : ℕ} {after : List ℕ} {r : Made}
      → AreBytes before → IsId id → Deletes size count id before a after r → (told r).number ≡ 0 → ReadsBack size count before after id none
  pub meaning : (size count : ℕ) (image : List ℕ) → AreBytes image → legal_sizes size count (length image) ≡ true → OneMeaning size count image
  pub mount_turns : (size count : ℕ) → ShowsTurns size count (Mounts size count)
  pub write_turns : (size count id : ℕ) (value : List ℕ) → IsId id → AreBytes value → ShowsTurns size count (Writes size count id value)
  pub delete_turns : (size count id : ℕ) → IsId id → ShowsTurns size count (Deletes size count id)

-- ---- Demand 3: "The plain book".

-- "It starts after a format that gave 0, on whatever bytes."
pub data Fresh (size count : ℕ) : (image : List ℕ) → Type 0 where
  formatted : {bytes : List ℕ} {a : ℕ} {image : List ℕ} {r : Made} → AreBytes bytes
      → Formats size count bytes a image r → (told r).number ≡ 0 → Fresh size count image

-- "Its list holds mounts, writes and deletes with any ID, value and allowance, at the format's sizes": a run of one of them
pub data Runs (size count : ℕ) : Call → (before after : List ℕ) → Made → Type 0 where
  mounted : {a : ℕ} {before after : List ℕ} {r : Made} → Mounts size count before a after r → Runs size count (rules.mount a) before after r
  written : {id : ℕ} {value : List ℕ} {a : ℕ} {before after : List ℕ} {r : Made}
      → Writes size count id value before a after r → Runs size count (rules.write id value a) before after r
  deleted : {id a : ℕ} {before after : List ℕ} {r : Made} → Deletes size count id before a after r → Runs size count (rules.delete id a) before after r

-- A list of calls, run one after the other: from an image and a book to the image and the book after it. "The book is fed
-- each call's arguments and its answer number, and nothing of the image."
pub data Ran (size count : ℕ) : List Call → (before : List ℕ) (book : Model) (after : List ℕ) (book_after : Model) → Type 0 where
  ended : {image : List ℕ} {book : Model} → Ran size count [] image book image book
  called : {call : Call} {rest : List Call} {before between after : List ℕ} {book book_after : Model} {r : Made}
      → Runs size count call before between r → Ran size count rest between (model_after call (told r).number book) after book_after
      → Ran size count (call ∷ rest) before book after book_after

-- A call that is not refused, whatever the allowance: 0 and at most so many turns, "or 11 if cut". Some allowance is enough.
pub record Completes (run : (allowance : ℕ) (after : List ℕ) (r : Made) → Type 0) (most : ℕ) : Type 0 where
  pub stores : ℕ
  pub turns : ℕ
  pub few : turns ≤ most
  pub enough : IsBudget stores
  pub whole : {a : ℕ} {after : List ℕ} {r : Made} → run a after r → stores ≤ a → told r ≡ gives 0 stores turns 0
  pub short : {a : ℕ} {after : List ℕ} {r : Made} → run a after r → a < stores → told r ≡ gives 11 a 0 0

-- "an image at rest that tells the same values"
pub record Serves (size count : ℕ) (image : List ℕ) (book : Model) : Type 0 where
  pub working : ℕ
  pub rests : state_of (views size count image) ≡ some (at_rest working)
  pub tells : (id : ℕ) → IsUser id → Matches (lookup id (history (at_rest working) (views size count image))) (book id)
  -- "Reads of these IDs then give the book's value (10 if the buffer is short), or 8 where the book has nothing."
  pub reads : {id : ℕ} {buffer after : List ℕ} {reply : Reply}
      → IsUser id → Reads size count image id buffer after reply → ReadsAs buffer (book id) (reply_numbers_of reply) after
  -- "gives 7 exactly when its need added to the open sector's needs is above B-5, and so is its need added to the live needs
  -- [..] of each sector but the spare"
  pub refuses : {id : ℕ} {value : List ℕ} {a : ℕ} {after : List ℕ} {r : Made}
      → IsWritable size id value → Writes size count id value image a after r
      → ((told r).number ≡ 7) ↔ IsFull size count image working (need_of (look.value id (length value)))
  -- "Otherwise it gives 0, turns below S, or 11 if cut."
  pub writes : (id : ℕ) (value : List ℕ) → IsWritable size id value
      → (IsFull size count image working (need_of (look.value id (length value))) → ⊥)
      → Completes (Writes size count id value image) (count - 1)
  -- "A delete of an ID with a value in the book gives 0, turns at most 1, or 11 if cut."
  pub deletes : (id : ℕ) {value : List ℕ} → IsUser id → book id ≡ some value → Completes (Deletes size count id image) 1

-- "After every list, the empty one too: The image is a store. For each ID but FFFFFFFF the newest entry tells the book's
-- value [..]. A mount with allowance enough answers 0, turns 0 or 1, and leaves" that.
pub record Holds (size count : ℕ) (image : List ℕ) (book : Model) : Type 0 where
  pub store : IsStore size count image book
  pub mounts : Completes (Mounts size count image) 1
  pub serves : {a : ℕ} {after : List ℕ} {r : Made} → Mounts size count image a after r → mounts.stores ≤ a → Serves size count after book

-- "It is a single claim about the list, not one for each call."
unfoldable pub Demand3 : Type 0
Demand3 =
    (size count : ℕ) (calls : List Call) (fresh image : List ℕ) (book : Model)
    → Each Typed calls → Fresh size count fresh → Ran size count calls fresh empty_model image book → Holds size count image book

-- None of this is empty: bytes of legal sizes can be formatted, which leaves an image to start from, and every list of calls
-- has a run from any image, and only one.
pub record Histories (size count : ℕ) : Type 0 where
  pub begins : (bytes : List ℕ) → legal_sizes size count (length bytes) ≡ true → Completes (Formats size count bytes) 0
  pub fresh : (bytes : List ℕ) → AreBytes bytes → legal_sizes size count (length bytes) ≡ true → (image : List ℕ) × Fresh size count image
  pub runs : (calls : List Call) (before : List ℕ) (book : Model) → (after : List ℕ) × (book_after : Model) × Ran size count calls before book after book_after
  pub alike : {calls : List Call} {before : List ℕ} {book : Model} {after after' : List ℕ} {book_after book_after' : Model}
      → Ran size count calls before book after book_after → Ran size count calls before book after' book_after'
      → (after ≡ after') × (book_after ≡ book_after')

-- All that is promised.
pub record Accepted : Type 0 where
  pub demand1 : Demand1
  pub demand2 : Demand2
  pub demand3 : Demand3
  pub histories : (size count : ℕ) → Histories size count
