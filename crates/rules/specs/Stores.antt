-- "Order of stores": each step as the list of block stores that it makes on an image.
use Rattle.std.specs.Prelude.{Bool, true, false, ◌&&◌, List, [], ◌∷◌, ◌++◌, map, ℕ, zero, suc, ◌+◌, ◌*◌, ◌-◌, ◌%◌, eqb, leb, ltb, length, get_or, if◌then◌else◌}
use Rattle.std.proofs.Math.Option.{Option, none, some}
use Rattle.rules.specs.Notation.{pieces, bytes_of, erased}
use Rattle.rules.specs.Ground.{Block, Image, block_size, blank_block, block_at, store, store_bytes, reserved_id}
use Rattle.rules.specs.Checksum.{crc32}
use Rattle.rules.specs.Entry.{encode, lead_block, close_block, done_block}
use Rattle.rules.specs.Look as look
use Rattle.rules.specs.Look.{Head, is_entry, start, after, data_blocks, is_close}
use Rattle.rules.specs.Reading.{Entry, View, view_of, is_long, after_all, end_block}
use Rattle.rules.specs.Meaning.{State, at_rest, not_reopened, mid_turn, views_of, view_at, next, all_but, counting, length_in, live_each, needs_of}

-- the kinds of a store, as they are printed
pub data Kind : Type 0 where
  lead close done value deletion data' blank : Kind

-- "A store sets one whole block."
pub record Store : Type 0 where
  pub sector : ℕ
  pub block : ℕ
  pub kind : Kind
  pub bytes : Block

unfoldable pub apply : List Store → Image → Image
apply [] im = im
apply (s ∷ ss) im = apply ss (store im s.sector s.block s.bytes)

-- the same on the bytes of the image
unfoldable pub apply_bytes : (B : ℕ) → List Store → List ℕ → List ℕ
apply_bytes B [] bytes = bytes
apply_bytes B (s ∷ ss) bytes = apply_bytes B ss (store_bytes B bytes s.sector s.block s.bytes)

infixr 30 ◌and_then◌
-- A step gives its stores on an image; one step after another gives those on the image that the first leaves.
abbrev pub Plan : Type 0
Plan = Image → List Store

unfoldable pub nothing : Plan
nothing im = []

unfoldable pub ◌and_then◌ : Plan → Plan → Plan
◌and_then◌ first second im = let stores : List Store = first im in stores ++ second (apply stores im)

-- the bytes of an entry at its place: its cycle and offset are those of the sector, the rest is its own
unfoldable pub id_in : Head → ℕ
id_in look.done = reserved_id
id_in (look.deletion id) = id
id_in (look.value id len) = id

unfoldable pub entry_block : (cycle data_end : ℕ) → Entry → Block
entry_block cycle data_end e =
    encode cycle (length_in e.head) (id_in e.head) (if is_long e.head then bytes_of 4 (data_end * block_size) ++ e.inline else e.inline)

unfoldable pub kind_of : Head → Kind
kind_of look.done = done
kind_of (look.deletion id) = deletion
kind_of (look.value id len) = value

-- data blocks upward from block b
unfoldable pub data_stores : (s b : ℕ) → List Block → List Store
data_stores s b [] = []
data_stores s b (block ∷ blocks) = record { sector = s; block = b; kind = data'; bytes = block } ∷ data_stores s (suc b) blocks

unfoldable pub blank_store : (s b : ℕ) → Store
blank_store s b = record { sector = s; block = b; kind = blank; bytes = blank_block }

-- a blanking where the test holds
unfoldable pub blank_if : Bool → (s b : ℕ) → List Store
blank_if true s b = blank_store s b ∷ []
blank_if false s b = []

-- "Append: data blocks upward; then, if the next block down would read as an entry after this one, blank it (look-ahead);
-- then the entry."
unfoldable pub append : (B s : ℕ) → Entry → Plan
append B s e im =
    let view : View = view_of B (get_or im s []) in
    let before : look.Scan = after_all start view.entries in
    let place : ℕ = end_block B view.entries in
    let contents : List Store = data_stores s before.data_end e.blocks in
    let below : Block = block_at (apply contents im) s (place - 1) in
    contents
    ++ blank_if (is_entry (look.look B view.cycle (after before e.head) below)) s (place - 1)
    ++ (record { sector = s; block = place; kind = kind_of e.head; bytes = entry_block view.cycle before.data_end e } ∷ [])

unfoldable pub append_all : (B s : ℕ) → List Entry → Plan
append_all B s [] = nothing
append_all B s (e ∷ es) = append B s e and_then append_all B s es

-- "the new cycle being old plus 1, 255 going to 0"
unfoldable pub next_cycle : ℕ → ℕ
next_cycle cycle = (cycle + 1) % 256

-- "Reopen a sector: with the new cycle being old plus 1, 255 going to 0: blank B-2 if it would read as close under the new cycle; blank B-3 if it would read as an entry under
-- it in an empty sector; then the lead."
unfoldable pub reopen : (B s : ℕ) → Plan
reopen B s im =
    let cycle : ℕ = next_cycle (view_of B (get_or im s [])).cycle in
    blank_if (is_close cycle (block_at im s (B - 2))) s (B - 2)
    ++ blank_if (is_entry (look.look B cycle start (block_at im s (B - 3)))) s (B - 3)
    ++ (record { sector = s; block = B - 1; kind = lead; bytes = lead_block cycle } ∷ [])

unfoldable pub close_sector : (B s : ℕ) → Plan
close_sector B s im = record { sector = s; block = B - 2; kind = close; bytes = close_block (view_of B (get_or im s [])).cycle } ∷ []

unfoldable pub done_entry : Entry
done_entry = record { head = look.done; inline = erased 8; blocks = [] }

-- the live values of the sector after u, which is the oldest one, u being ignored
unfoldable pub survivors : (B u : ℕ) → Image → List Entry
survivors B u im = get_or (live_each (all_but u (views_of B im))) 0 []

-- "append to N+1 the live values of N+2, oldest first, with data blocks and CRC-32 as they lie; append done to N+1; reopen
-- N+2": u is N+1
unfoldable pub finish_turn : (B S u : ℕ) → Plan
finish_turn B S u im = (append_all B u (survivors B u im) and_then append B u done_entry and_then reopen B (next S u)) im

-- "Turn from open sector N: close N;" and then that
unfoldable pub turn : (B S w : ℕ) → Plan
turn B S w = close_sector B w and_then finish_turn B S (next S w)

-- so many turns, the working sector moving on with each
unfoldable pub turns : (B S : ℕ) → (count w : ℕ) → Plan
turns B S zero w = nothing
turns B S (suc count) w = turn B S w and_then turns B S count (next S w)

unfoldable pub moved : (S : ℕ) → (count w : ℕ) → ℕ
moved S zero w = w
moved S (suc count) w = moved S count (next S w)

-- "Mount: rest, nothing. Done, not reopened: reopen the working sector's successor. Mid-turn: reopen the unfinished sector,
-- then the turn from its first copy on."
unfoldable pub mount : (B S : ℕ) → State → Plan
mount B S (at_rest w) = nothing
mount B S (not_reopened w) = reopen B (next S w)
mount B S (mid_turn u) = reopen B u and_then finish_turn B S u

-- the first of these needs that leaves room, counted from t
unfoldable pub first_fit : (need limit t : ℕ) → List ℕ → Option ℕ
first_fit need limit t [] = none
first_fit need limit t (n ∷ ns) = if leb (n + need) limit then some t else first_fit need limit (suc t) ns

-- "With no turn it fits if the open sector's needs plus its own are at most B-5 (deletion B-4). After t turns, t from 1 to
-- S-1, it fits if the live needs of sector open+1+t, plus its own, are at most that." Those sectors are the ones that
-- count, oldest first, the open one last.
unfoldable pub least_turns : (need limit w : ℕ) → List View → Option ℕ
least_turns need limit w views =
    first_fit need limit 0
    (needs_of (view_at views w).entries ∷ map needs_of (live_each (counting (at_rest w) views)))

-- "Write or delete: the least number of turns after which it fits, then the append."
unfoldable pub change : (B S count w : ℕ) → Entry → Plan
change B S count w e = turns B S count w and_then append B (moved S count w) e

-- the entry of a value: "padded with FF"
unfoldable pub value_entry : (id : ℕ) → List ℕ → Entry
value_entry id bytes =
    let len : ℕ = length bytes in
    let padded : List ℕ = bytes ++ erased (data_blocks len * block_size - len) in
    record { head = look.value id len; inline = if ltb 8 len then bytes_of 4 (crc32 bytes) else bytes ++ erased (8 - len); blocks = pieces (data_blocks len) block_size padded }

unfoldable pub deletion_entry : (id : ℕ) → Entry
deletion_entry id = record { head = look.deletion id; inline = erased 8; blocks = [] }

-- Format's final bytes: "all cycles 1; done in sector 0; sectors 2 to S-1 closed; all else blank".
unfoldable pub final_store : (B s b : ℕ) → Store
final_store B s b =
    if eqb b (B - 1) then record { sector = s; block = b; kind = lead; bytes = lead_block 1 }
    else if eqb b (B - 2) && leb 2 s then record { sector = s; block = b; kind = close; bytes = close_block 1 }
    else if eqb b (B - 3) && eqb s 0 then record { sector = s; block = b; kind = done; bytes = done_block 1 }
    else blank_store s b

-- the final stores of count blocks upward from b, and of so many sectors from s on
unfoldable pub final_blocks : (B s b count : ℕ) → List Store
final_blocks B s b zero = []
final_blocks B s b (suc count) = final_store B s b ∷ final_blocks B s (suc b) count

unfoldable pub final_sectors : (B s count : ℕ) → List Store
final_sectors B s zero = []
final_sectors B s (suc count) = final_blocks B s 0 B ++ final_sectors B (suc s) count

-- "Format: blank sector 0's lead; then every sector in turn, blocks upward, with its final bytes, sector 0's lead left out;
-- last that lead."
unfoldable pub format : (B S : ℕ) → List Store
format B S =
    blank_store 0 (B - 1)
    ∷ final_blocks B 0 0 (B - 1)
    ++ final_sectors B 1 (S - 1)
    ++ (final_store B 0 (B - 1) ∷ [])
