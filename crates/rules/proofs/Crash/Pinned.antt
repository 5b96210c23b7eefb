-- "Nothing changed": a refusal leaves the image and the buffer; and a call changes at most as many blocks as it was allowed.
use mathlib.Core.Path.{◌≡◌, refl, ◌∙◌}
use mathlib.Core.List.{List, map}
use mathlib.Core.Option.{some}
use Prim.Native.Nat.{ℕ, ◌+◌, ◌*◌, ◌/◌, ◌≤◌, ◌<◌}
use native.Mathlib.Omega.{arith}
use lib.Dec.{leb}
use lib.ListN.{length, get_or, length-take, length-map}
use lib.Seq.{sets}
use borrow.Author.Tests.{lt-ltb}
use Rattle.rules.specs.Notation.{Each, empty, each}
use Rattle.rules.specs.Ground.{Block, block_size, place_of, store_bytes}
use Rattle.rules.specs.Reading.{Entry}
use Rattle.rules.specs.Meaning.{length_in}
use Rattle.rules.specs.Stores.{Store, apply_bytes}
use Rattle.rules.specs.Calls.{Refusal, short_buffer, read_entry, Due, refuse, make, Reply, found, answer, answer_numbers, made, reply_numbers, buffer_after, leaves, format_due}
use Rattle.rules.specs.Demands.{Call, Typed, AreBytes, due, FewDiffer}
use Rattle.rules.proofs.Terms.{IsInside}
use Rattle.rules.proofs.Basics.Notation.{by-test}
use Rattle.rules.proofs.Basics.Lists.{sets-stands}
use Rattle.rules.proofs.Basics.Parts.{each_weaken}
use Rattle.rules.proofs.Ring.Fits.{each_map}
use Rattle.rules.proofs.Blocks.OnBytes.{length-stored}
use Rattle.rules.proofs.Crash.Within.{format-within, call-within}

-- ---- refusals

pub refusal-leaves : (size : ℕ) (r : Refusal) (a : ℕ) (bytes : List ℕ) → leaves size (refuse r) a bytes ≡ bytes
unfolding leaves made apply_bytes
refusal-leaves size r a bytes = refl

pub refusal-buffer : (r : Refusal) (buffer : List ℕ) → buffer_after (Reply.refused r) buffer ≡ buffer
unfolding buffer_after
refusal-buffer r buffer = refl

-- "Numbers 1 to 10 are refusals; 11 is none."
pub number-leaves : (size : ℕ) (what : Due) (a : ℕ) (bytes : List ℕ) → ((answer_numbers (answer what a)).number ≡ 0 → ⊥) → ((answer_numbers (answer what a)).number ≡ 11 → ⊥) → leaves size what a bytes ≡ bytes
unfolding answer answer_numbers
number-leaves size (refuse r) a bytes not_done not-cut = refusal-leaves size r a bytes
number-leaves size (make stores turns) a bytes not_done not-cut =
    by-test (leb (length stores) a)
    (λ enough. absurd (not_done (simp enough)))
    (λ short. absurd (not-cut (simp short)))

pub number-buffer : (reply : Reply) (buffer : List ℕ) → ((reply_numbers reply).number ≡ 0 → ⊥) → buffer_after reply buffer ≡ buffer
unfolding reply_numbers
number-buffer (found e) buffer not_found = absurd (not_found refl)
number-buffer (Reply.refused r) buffer not_found = refusal-buffer r buffer

-- "Checked in the order [..] 10, 9": a short buffer is told whatever the data
pub short-first : (room : ℕ) (e : Entry) → room < length_in e.head → read_entry room (some e) ≡ Reply.refused (short_buffer (length_in e.head))
unfolding read_entry
short-first room e short = rw (lt-ltb room (length_in e.head) short)

-- ---- allowances

pub made-few : (what : Due) (a : ℕ) → length (made what a) ≤ a
unfolding made
made-few (refuse r) a = omega arith
made-few (make stores turns) a = omega (arith, length-take a stores)

-- a byte of another block stands
store-stands : (B : ℕ) (bytes : List ℕ) (s b : ℕ) (block : Block) (i : ℕ) → length block ≡ block_size → (i / block_size ≡ s * B + b → ⊥)
    → get_or (store_bytes B bytes s b block) i 0 ≡ get_or bytes i 0
unfolding store_bytes place_of
store-stands B bytes s b block i sized apart = go (s * B + b) apart
  where
    go : (n : ℕ) → (i / block_size ≡ n → ⊥) → get_or (sets bytes (n * block_size) block) i 0 ≡ get_or bytes i 0
    go n other = sets-stands bytes (n * block_size) block i 0 (λ from to. other (omega arith))

-- a block's number, counted from the start of the image
abbrev pub block_in : (B : ℕ) → Store → ℕ
block_in B st = st.sector * B + st.block

stores-stand : (B : ℕ) {ss : List Store} (bytes : List ℕ) (i : ℕ) → Each (λ (st : Store). length st.bytes ≡ block_size) ss → Each (λ (st : Store). i / block_size ≡ block_in B st → ⊥) ss
    → get_or (apply_bytes B ss bytes) i 0 ≡ get_or bytes i 0
unfolding apply_bytes
stores-stand B bytes i empty empty = refl
stores-stand B bytes i (each {x = st} whole wholes) (each apart rest) =
    stores-stand B _ i wholes rest ∙ store-stands B bytes st.sector st.block st.bytes i whole apart

-- So at most as many blocks differ as were allowed: all others stand.
stores-few : (size count : ℕ) (what : Due) (a : ℕ) (bytes : List ℕ) → Each (IsInside (size / block_size) count) (made what a) → FewDiffer a bytes (leaves size what a bytes)
unfolding leaves
stores-few size count what a bytes inside =
    let B : ℕ = size / block_size in
    record {
      blocks = map (block_in B) (made what a);
      few = omega (arith, length-map (made what a) (block_in B), made-few what a);
      sized = length-stored B (made what a) bytes;
      others = λ i apart. stores-stand B bytes i (each_weaken (λ st is. is.bytes.sized) inside) (each_map (λ (b : ℕ). i / block_size ≡ b → ⊥) (block_in B) (made what a) apart);
    }

pub format-few : (size count : ℕ) (image : List ℕ) (a : ℕ) → FewDiffer a image (leaves size (format_due size count image) a image)
format-few size count image a = stores-few size count (format_due size count image) a image (format-within size count image a)

pub call-few : (size count : ℕ) (image : List ℕ) (call : Call) (a : ℕ) → AreBytes image → Typed call → FewDiffer a image (leaves size (due size count image call) a image)
call-few size count image call a bytes typed = stores-few size count (due size count image call) a image (call-within size count image call a bytes typed)
