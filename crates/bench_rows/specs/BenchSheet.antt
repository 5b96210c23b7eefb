-- "Bench sheet": its rows marked P, as one list of statements about the five calls.
use Rattle.std.specs.Prelude.{◌≡◌, true, false, List, [], ◌∷◌, ◌++◌, map, ◌↔◌, ℕ, ◌+◌, ◌*◌, ◌-◌, ◌/◌, ◌<◌, ◌≤◌, length, get_or, replicate}
use Rattle.std.proofs.Math.Option.{none, some}
use Rattle.rules.specs.Ground.{Image, block_size, legal_sizes, blank_block, reserved_id}
use Rattle.rules.specs.Entry.{lead_block}
use Rattle.rules.specs.Look.{Scan, blank, look, is_lead, is_close, need_of}
use Rattle.rules.specs.Reading.{view_of}
use Rattle.rules.specs.Meaning.{at_rest, mid_turn, state_of, history, lookup}
use Rattle.rules.specs.Stores.{Store, Kind, apply, reopen, value_entry}
use Rattle.rules.specs.Calls.{Due, make, refuse, geometry, no_store, too_long, absent, Answer, done, answer, answer_numbers, Reply, format_due, mount_due, write_due, delete_due, read, leaves}
use Rattle.rules.specs.Demands.{Call, write, plenty, AreBytes, budget, due, empty_model, run, IsUser, views, Matches}

-- "Fresh": what a format with answer 0 leaves, on whatever bytes
pub data Fresh (size count : ℕ) : List ℕ → Type 0 where
  formatted : (bytes : List ℕ) (a : ℕ) → (answer_numbers (answer (format_due size count bytes) a)).number ≡ 0
      → Fresh size count (leaves size (format_due size count bytes) a bytes)

-- the image after some calls, and what they answer
unfoldable pub image_after : (size count : ℕ) → List ℕ → List Call → List ℕ
image_after size count image calls = (run size count (record { image = image; model = empty_model }) calls).image

unfoldable pub answers : (size count : ℕ) → List ℕ → List Call → List Answer
answers size count image [] = []
answers size count image (call ∷ rest) =
    let what : Due = due size count image call in
    answer what (budget call) ∷ answers size count (leaves size what (budget call) image) rest

-- a value of `least` to `most` bytes, of any ID but the reserved one
pub record UserValue (least most : ℕ) : Type 0 where
  pub id : ℕ
  pub bytes : List ℕ
  pub user : IsUser id
  pub typed : AreBytes bytes
  pub from : least ≤ length bytes
  pub to : length bytes ≤ most

abbrev pub write_of : {least most : ℕ} → UserValue least most → Call
write_of v = write v.id v.bytes plenty

-- "a line a store: sector, block, kind"
unfoldable pub trace : Due → List (ℕ × ℕ × Kind)
trace (refuse r) = []
trace (make stores turns) = map (λ (s : Store). (s.sector, s.block, s.kind)) stores

-- so many bytes, whichever they are
pub record Bytes (n : ℕ) : Type 0 where
  pub bytes : List ℕ
  pub typed : AreBytes bytes
  pub sized : length bytes ≡ n

-- "ID 7 written three times with 8 bytes; the fourth write"
abbrev pub three_writes : (a b c : Bytes 8) → List Call
three_writes a b c = write 7 a.bytes plenty ∷ write 7 b.bytes plenty ∷ write 7 c.bytes plenty ∷ []

abbrev pub fourth_write : (d : Bytes 8) (budget : ℕ) → Call
fourth_write d n = write 7 d.bytes n

-- Row 1: a value of at most this length lands in a fresh store; a longer one gives 6, on any image of these sizes, and no
-- other does.
pub record Longest (size count longest : ℕ) : Type 0 where
  pub accepts : (image : List ℕ) (id : ℕ) (value : List ℕ)
      → Fresh size count image → (id ≡ reserved_id → ⊥) → 1 ≤ length value → length value ≤ longest
      → (answer_numbers (answer (write_due size count image id value) plenty)).number ≡ 0
  pub refuses_longer : (image : List ℕ) (id : ℕ) (value : List ℕ)
      → length image ≡ count * size → (id ≡ reserved_id → ⊥) → 1 ≤ length value
      → (write_due size count image id value ≡ refuse too_long) ↔ (longest < length value)

-- Row 8: the last store of reopening sector s is the lead of cycle 0, and the sector then shows that.
pub record ReopensAt0 (B s : ℕ) (im : Image) : Type 0 where
  pub before : List Store
  pub stores : reopen B s im ≡ before ++ (record { sector = s; block = B - 1; kind = Kind.lead; bytes = lead_block 0 } ∷ [])
  pub shows : 1 ≤ B → s < length im → length (get_or im s []) ≡ B → (view_of B (get_or (apply (reopen B s im) im) s [])).cycle ≡ 0

-- Row 9: what the three writes answer, and what is due for the fourth.
pub record FourthWrite (image : List ℕ) (a b c d : Bytes 8) : Type 0 where
  pub three : answers 128 2 image (three_writes a b c) ≡ replicate 3 (done 1 0)
  pub fourth : answer (due 128 2 (image_after 128 2 image (three_writes a b c)) (fourth_write d plenty)) plenty ≡ done 5 1
  pub lines : trace (due 128 2 (image_after 128 2 image (three_writes a b c)) (fourth_write d plenty))
      ≡ (0, 6, Kind.close) ∷ (1, 5, Kind.value) ∷ (1, 4, Kind.done) ∷ (0, 7, Kind.lead) ∷ (1, 3, Kind.value) ∷ []

-- Row 10: the image after the fourth write was cut after so many stores.
abbrev pub cut_after : (image : List ℕ) (a b c d : Bytes 8) (stores : ℕ) → List ℕ
cut_after image a b c d stores = image_after 128 2 image (three_writes a b c ++ (fourth_write d stores ∷ []))

pub record CutAfter2 (image third : List ℕ) : Type 0 where
  pub state : state_of (views 128 2 image) ≡ some (mid_turn 1)
  pub holds : Matches (lookup 7 (history (mid_turn 1) (views 128 2 image))) (some third)
  pub mounts : answer (mount_due 128 2 image) plenty ≡ done 4 1

-- Row 12: a store with no values.
pub record HoldsNothing (size count : ℕ) (image : List ℕ) : Type 0 where
  pub reads : (id buffer_length : ℕ) → (id ≡ reserved_id → ⊥) → read size count image id buffer_length ≡ Reply.refused absent
  pub mounts : (a : ℕ) → answer (mount_due size count image) a ≡ done 0 0
  pub deletes : (id a : ℕ) → (id ≡ reserved_id → ⊥) → answer (delete_due size count image id) a ≡ Answer.refused absent

-- Row 12: an ID that is absent in an image at rest.
pub record IsAbsent (size count : ℕ) (image : List ℕ) (id : ℕ) : Type 0 where
  pub legal : legal_sizes size count (length image) ≡ true
  pub user : id ≡ reserved_id → ⊥
  pub working : ℕ
  pub rests : state_of (views size count image) ≡ some (at_rest working)
  pub told : lookup id (history (at_rest working) (views size count image)) ≡ none

-- Row 13: all five calls give 1.
pub record OffSizes (size count : ℕ) : Type 0 where
  pub formats : (image : List ℕ) (a : ℕ) → answer (format_due size count image) a ≡ Answer.refused geometry
  pub mounts : (image : List ℕ) (a : ℕ) → answer (mount_due size count image) a ≡ Answer.refused geometry
  pub writes : (image : List ℕ) (id : ℕ) (value : List ℕ) (a : ℕ) → answer (write_due size count image id value) a ≡ Answer.refused geometry
  pub deletes : (image : List ℕ) (id a : ℕ) → answer (delete_due size count image id) a ≡ Answer.refused geometry
  pub reads : (image : List ℕ) (id buffer_length : ℕ) → read size count image id buffer_length ≡ Reply.refused geometry

pub record BenchSheet : Type 0 where
  -- No row, but what the rows stand on: any bytes of legal sizes can be made a fresh store.
  pub fresh : (size count : ℕ) (bytes : List ℕ) → legal_sizes size count (length bytes) ≡ true
      → answer (format_due size count bytes) plenty ≡ done (1 + count * (size / block_size)) 0
  -- 1. "4 sectors of 1024: length 928 is accepted, 929 gives 6. With 128: 32 and 33."
  pub row1 : Longest 1024 4 928 × Longest 128 4 32
  -- 2. "Fresh 4 x 1024: values of need 1 fit 59 times without a turn; the 60th takes 1 turn, 4 stores."
  pub row2 : (image : List ℕ) (values : List (UserValue 1 8)) → Fresh 1024 4 image → length values ≡ 60
      → answers 1024 4 image (map write_of values) ≡ replicate 59 (done 1 0) ++ (done 4 1 ∷ [])
  -- 5. "64 bytes has need 5; 11 a sector."
  pub row5 : ((id : ℕ) (value : List ℕ) → length value ≡ 64 → need_of (value_entry id value).head ≡ 5)
      × ((image : List ℕ) (values : List (UserValue 64 64)) → Fresh 1024 4 image → length values ≡ 12
      → answers 1024 4 image (map write_of values) ≡ replicate 11 (done 5 0) ++ (done 8 1 ∷ []))
  -- 7. "A blank block is no entry, lead or close, under any cycle."
  pub row7 : (B cycle : ℕ) (scan : Scan)
      → (look B cycle scan blank_block ≡ blank) × (is_lead blank_block ≡ false) × (is_close cycle blank_block ≡ false)
  -- 8. "Counter 255, reopened, is 0."
  pub row8 : (B s : ℕ) (im : Image) → (view_of B (get_or im s [])).cycle ≡ 255 → ReopensAt0 B s im
  -- 9. "2 x 128, ID 7 written three times with 8 bytes; the fourth write prints exactly" the five lines.
  pub row9 : (image : List ℕ) (a b c d : Bytes 8) → Fresh 128 2 image → FourthWrite image a b c d
  -- 10. "That fourth write cut after 2: mid-turn, ID 7 holds the third value; a mount takes 4 stores. Cut after 3: a mount
  -- takes 1 store."
  pub row10 : (image : List ℕ) (a b c d : Bytes 8) → Fresh 128 2 image
      → CutAfter2 (cut_after image a b c d 2) c.bytes × (answer (mount_due 128 2 (cut_after image a b c d 3)) plenty ≡ done 1 0)
  -- 12. "Read of ID 0 in a fresh store: 8. Mount of it: 0, no stores. Delete of an absent ID: 8."
  pub row12 : ((size count : ℕ) (image : List ℕ) → Fresh size count image → HoldsNothing size count image)
      × ((size count : ℕ) (image : List ℕ) (id a : ℕ) → IsAbsent size count image id → answer (delete_due size count image id) a ≡ Answer.refused absent)
  -- 13. "Sector size 112, 136, 65,552, or 1 or 65 sectors: 1."
  pub row13 : ((count : ℕ) → OffSizes 112 count × OffSizes 136 count × OffSizes 65552 count)
      × ((size : ℕ) → OffSizes size 1 × OffSizes size 65)
  -- 14. "Format cut after 1: mount gives 2."
  pub row14 : (size count : ℕ) (bytes : List ℕ) (a : ℕ) → legal_sizes size count (length bytes) ≡ true
      → answer (mount_due size count (leaves size (format_due size count bytes) 1 bytes)) a ≡ Answer.refused no_store
