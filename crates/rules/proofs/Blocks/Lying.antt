-- Where an entry that was read lies in the bytes of its sector: the fields of its own block, and the bytes and data blocks of its value.
use Rattle.std.specs.Prelude.{if◌then◌else◌}
use mathlib.Core.Path.{◌≡◌, refl, sym, ap, subst, ◌∙◌}
use mathlib.Core.Bool.{true, false, false≢true}
use mathlib.Core.List.{List, [], ◌∷◌}
use mathlib.Core.Logic.{◌↔◌}
use Prim.Native.Nat.{ℕ, zero, suc, ◌+◌, ◌*◌, ◌-◌, ◌%◌, ◌<◌, ◌≤◌}
use native.Mathlib.Nat.{zero-mul, suc-mul, add_comm, le_of_suc-le-suc}
use native.Mathlib.Omega.{arith}
use lib.Dec.{eqb}
use lib.ListN.{length, get_or, take, drop, length-drop}
use lib.Seq.{drop-drop, take-take, take_all}
use borrow.Author.Tests.{eq-eqb, ne_eqb, le-ltb, ltb-false}
use Rattle.rules.specs.Notation.{pieces, number_of}
use Rattle.rules.specs.Ground.{Block, Sector, block_size, reserved_id, sector_of}
use Rattle.rules.specs.Entry.{length_of, id_of, body_of, offset_of, crc32_of}
use Rattle.rules.specs.Look.{Head, done, deletion, value, Scan, start, after, data_blocks, data_of, head_of, entry, look}
use Rattle.rules.specs.Reading.{Entry, is_long, entry_at, entries_of}
use Rattle.rules.specs.Meaning.{is_value, length_in, value_of}
use Rattle.rules.specs.Stores.{id_in}
use Rattle.rules.proofs.Basics.Lists.{part-of-take, length_part}
use Rattle.rules.proofs.Format.Ground.{length-pieces, get_or-pieces}
use Rattle.rules.proofs.Format.Look.{Kind, is-done, is-deletion, is-small-value, is-long-value, form-kind, look-entry}
use Rattle.rules.proofs.Blocks.Reading.{Took, took-none, took_more, took-down}
use Rattle.rules.proofs.Blocks.Place.{Place, place-data, place-step, place-start, Reading, reading-of}
use Rattle.rules.proofs.Blocks.Value.{concat-pieces, roomy}

-- The head of an entry that was read, by the two fields of its block that decide.
unfoldable pub head_by : (id length : ℕ) → Head
head_by id len = if eqb id reserved_id then done else if eqb len 0 then deletion id else value id len

-- A value of more than 8 bytes: its bytes, and its data blocks, which a copy takes as they lie, lie from the offset on, below
-- the entry's own block p.
pub record LiesLong (bytes : List ℕ) (p : ℕ) (block : Block) (e : Entry) : Type 0 where
  pub lies : value_of e ≡ take (length_in e.head) (drop (offset_of block) bytes)
  pub inside : offset_of block + length_in e.head ≤ length bytes
  pub aligned : offset_of block % block_size ≡ 0
  pub check : number_of e.inline ≡ crc32_of block
  pub counted : length e.blocks ≡ data_blocks (length_of block)
  pub below : offset_of block + length e.blocks * block_size ≤ p * block_size
  pub copied : (k : ℕ) → k < length e.blocks → get_or e.blocks k [] ≡ take block_size (drop (offset_of block + k * block_size) bytes)

-- An entry that was read from block p of a sector, by the sector's bytes and that block: two fields tell its head, and a value
-- lies in the block or at its offset.
pub record LiesAt (bytes : List ℕ) (p : ℕ) (block : Block) (e : Entry) : Type 0 where
  pub own : block ≡ take block_size (drop (p * block_size) bytes)
  pub head : e.head ≡ head_by (id_of block) (length_of block)
  pub id : id_of block ≡ id_in e.head
  pub length : length_of block ≡ length_in e.head
  pub valued : (is_value e.head ≡ true) ↔ ((id_of block ≡ reserved_id → ⊥) × (length_of block ≡ 0 → ⊥))
  pub deleted : (e.head ≡ deletion (id_of block)) ↔ ((id_of block ≡ reserved_id → ⊥) × (length_of block ≡ 0))
  pub short : is_long e.head ≡ false → value_of e ≡ take (length_in e.head) (drop (p * block_size + 8) bytes)
  pub long : is_long e.head ≡ true → LiesLong bytes p block e

-- ---- a kind by its fields

module _ {data_end id len : ℕ} {body : List ℕ} where
  kind-head : {head : Head} → Kind data_end id len body head → head ≡ head_by id len
  unfolding head_by
  kind-head (is-done reserved zeroes padded) = simp (eq-eqb id reserved_id reserved)
  kind-head (is-deletion other zeroes padded) = simp (ne_eqb id reserved_id other, eq-eqb len 0 zeroes)
  kind-head (is-small-value other one few padded) = simp (ne_eqb id reserved_id other, ne_eqb len 0 (omega arith))
  kind-head (is-long-value other many placed) = simp (ne_eqb id reserved_id other, ne_eqb len 0 (omega arith))

  kind-id : {head : Head} → Kind data_end id len body head → id ≡ id_in head
  unfolding id_in
  kind-id (is-done reserved zeroes padded) = reserved
  kind-id (is-deletion other zeroes padded) = refl
  kind-id (is-small-value other one few padded) = refl
  kind-id (is-long-value other many placed) = refl

  kind-length : {head : Head} → Kind data_end id len body head → len ≡ length_in head
  unfolding length_in
  kind-length (is-done reserved zeroes padded) = zeroes
  kind-length (is-deletion other zeroes padded) = zeroes
  kind-length (is-small-value other one few padded) = refl
  kind-length (is-long-value other many placed) = refl

  kind-valued : {head : Head} → Kind data_end id len body head → (is_value head ≡ true) ↔ ((id ≡ reserved_id → ⊥) × (len ≡ 0 → ⊥))
  unfolding is_value
  kind-valued (is-done reserved zeroes padded) = ((λ v. absurd (false≢true v)), (λ t. absurd (t.1 zeroes)))
  kind-valued (is-deletion other zeroes padded) = ((λ v. absurd (false≢true v)), (λ t. absurd (t.1 zeroes)))
  kind-valued (is-small-value other one few padded) = ((λ v. (other, (λ z. omega arith))), (λ t. refl))
  kind-valued (is-long-value other many placed) = ((λ v. (other, (λ z. omega arith))), (λ t. refl))

  kind-deleted : {head : Head} → Kind data_end id len body head → (head ≡ deletion id) ↔ ((id ≡ reserved_id → ⊥) × (len ≡ 0))
  kind-deleted (is-done reserved zeroes padded) = ((λ d. let z : ◌≡◌ {A = ℕ} 0 1 = cc in absurd (omega arith)), (λ t. absurd (t.0 reserved)))
  kind-deleted (is-deletion other zeroes padded) = ((λ d. (other, zeroes)), (λ t. refl))
  kind-deleted (is-small-value other one few padded) = ((λ d. let z : ◌≡◌ {A = ℕ} 0 1 = cc in absurd (omega arith)), (λ t. absurd (omega arith)))
  kind-deleted (is-long-value other many placed) = ((λ d. let z : ◌≡◌ {A = ℕ} 0 1 = cc in absurd (omega arith)), (λ t. absurd (omega arith)))

  -- what is not long fits the block
  kind-short : {head : Head} → Kind data_end id len body head → is_long head ≡ false → length_in head ≤ 8
  unfolding is_long length_in
  kind-short (is-done reserved zeroes padded) s = omega arith
  kind-short (is-deletion other zeroes padded) s = omega arith
  kind-short (is-small-value other one few padded) s = few
  kind-short (is-long-value other many placed) s = ltb-false 8 len s

  -- what is long lies at the end of the data before it
  kind-long : {head : Head} → Kind data_end id len body head → is_long head ≡ true
      → (number_of (take 4 body) ≡ data_end * block_size) × (data_of head ≡ data_blocks len) × (length_in head ≤ data_of head * block_size)
  unfolding is_long length_in data_of
  kind-long (is-done reserved zeroes padded) l = absurd (false≢true l)
  kind-long (is-deletion other zeroes padded) l = absurd (false≢true l)
  kind-long (is-small-value other one few padded) l = absurd (false≢true (sym (le-ltb 8 len few) ∙ l))
  kind-long (is-long-value other many placed) l = (placed, refl, roomy len many)

-- ---- the entry where it was taken

module _ {ℓ} {A : Type ℓ} where
  -- the pieces from the m-th on are those of what is left
  part-pieces : (m n N k : ℕ) (xs : List A) → m + n ≤ N → take n (drop m (pieces N k xs)) ≡ pieces n k (drop (m * k) xs)
  unfolding pieces
  part-pieces zero zero N k xs h = refl
  part-pieces zero (suc n) zero k xs h = absurd (omega arith)
  part-pieces zero (suc n) (suc N) k xs h =
      rw zero-mul (ap (λ (r : List (List A)). take k xs ∷ r) (part-pieces zero n N k (drop k xs) (omega arith) ∙ rw zero-mul))
  part-pieces (suc m) n zero k xs h = absurd (omega arith)
  part-pieces (suc m) n (suc N) k xs h =
      part-pieces m n N k (drop k xs) (omega arith) ∙ rw (drop-drop, suc-mul, add_comm (m * k))

-- An entry, what was read before it, and that its data blocks lie below it.
record Stood (B cycle : ℕ) (sector : Sector) (p : ℕ) (e : Entry) : Type 0 where
  scan : Scan
  here : look B cycle scan (get_or sector p []) ≡ entry e.head
  at : entry_at sector p scan e.head ≡ e
  room : scan.data_end + data_of e.head < p

-- the i-th of the entries stands i blocks below the first
stood : {B cycle : ℕ} {sector : Sector} {p q : ℕ} {scan : Scan} {es : List Entry} → Place B p scan → Took B cycle sector p scan es q
    → (b i : ℕ) (d : Entry) → b + suc i ≡ p → i < length es → Stood B cycle sector b (get_or es i d)
unfolding after
stood place took-none b i d same h = absurd (omega arith)
stood {B} {cycle} {sector} place (took_more {p = p} {scan = scan} {e = e} here at rest) b zero d same h =
    let standing : p ≡ b = omega arith in
    let next : Place B p (after scan e.head) = place-step e.head (look-entry B cycle scan (get_or sector p []) here).within place in
    subst (λ (n : ℕ). Stood B cycle sector n e) standing (record { scan = scan; here = here; at = at; room = place-data next })
stood {B} {cycle} {sector} place (took_more {p = p} {scan = scan} {e = e} here at rest) b (suc i) d same h =
    stood (place-step e.head (look-entry B cycle scan (get_or sector p []) here).within place) rest b i d (omega arith) (le_of_suc-le-suc h)

-- ---- and there its fields and its value lie

module _ (B cycle : ℕ) (bytes : List ℕ) (sized : length bytes ≡ B * block_size) {p : ℕ} {e : Entry} (s : Stood B cycle (sector_of B bytes) p e) (inside : p < B) where
  block : Block
  block = get_or (sector_of B bytes) p []

  own : block ≡ take block_size (drop (p * block_size) bytes)
  unfolding sector_of block
  own = get_or-pieces B block_size bytes p inside

  whole : length block ≡ block_size
  whole = ap length own ∙ length_part block_size (p * block_size) bytes (omega arith)

  kind : Kind s.scan.data_end (id_of block) (length_of block) (body_of block) e.head
  unfolding head_of block
  kind = form-kind s.scan.data_end (id_of block) (length_of block) (body_of block) (look-entry B cycle s.scan block s.here).right_form

  inline : e.inline ≡ (if is_long e.head then drop 4 (body_of block) else body_of block)
  unfolding entry_at block
  inline = sym (ap (λ (x : Entry). x.inline) s.at)

  contents : e.blocks ≡ pieces (data_of e.head) block_size (drop (s.scan.data_end * block_size) bytes)
  unfolding entry_at sector_of
  contents = sym (ap (λ (x : Entry). x.blocks) s.at) ∙ part-pieces s.scan.data_end (data_of e.head) B block_size bytes (omega (arith, s.room))

  short-value : is_long e.head ≡ false → value_of e ≡ take (length_in e.head) (drop (p * block_size + 8) bytes)
  unfolding value_of body_of
  short-value no-data =
      simp (no-data, inline, own)
      (part-of-take (length_in e.head) 8 block_size (drop (p * block_size) bytes) (omega (arith, kind-short kind no-data))
      ∙ ap (take (length_in e.head)) (drop-drop 8 (p * block_size) bytes))

  -- the offset is that of the data read before it
  offset-of : is_long e.head ≡ true → offset_of block ≡ s.scan.data_end * block_size
  unfolding offset_of body_of
  offset-of has-data = (kind-long kind has-data).0

  long-bytes : is_long e.head ≡ true → value_of e ≡ take (length_in e.head) (drop (offset_of block) bytes)
  unfolding value_of
  long-bytes has-data =
      let behind : List ℕ = drop (s.scan.data_end * block_size) bytes in
      let n : ℕ = data_of e.head in
      simp (has-data, contents, offset-of has-data)
      (ap (take (length_in e.head)) (concat-pieces n block_size behind)
      ∙ take-take (length_in e.head) (n * block_size) behind (kind-long kind has-data).2)

  long-check : is_long e.head ≡ true → number_of e.inline ≡ crc32_of block
  unfolding body_of crc32_of
  long-check has-data =
      let rest : drop 4 (drop 8 block) ≡ drop 12 block = drop-drop 4 8 block in
      simp (inline, has-data, rest)
      (ap number_of (sym (take_all 4 (drop 12 block) (omega (arith, length-drop 12 block, whole)))))

  long-value : is_long e.head ≡ true → LiesLong bytes p block e
  long-value has-data =
      let n : ℕ = data_of e.head in
      let behind : List ℕ = drop (s.scan.data_end * block_size) bytes in
      let (placed, same, room) = kind-long kind has-data in
      let offset : offset_of block ≡ s.scan.data_end * block_size = offset-of has-data in
      let below : s.scan.data_end + n < p = s.room in
      let count : length e.blocks ≡ n = ap length contents ∙ length-pieces n block_size behind in
      record {
        lies = long-bytes has-data;
        inside = omega arith;
        aligned = omega arith;
        check = long-check has-data;
        counted = count ∙ same;
        below = omega arith;
        copied =
            λ k h.
            simp (contents, offset)
            (get_or-pieces n block_size behind k (omega arith) ∙ ap (take block_size) (drop-drop (k * block_size) (s.scan.data_end * block_size) bytes));
      }

  at_place : LiesAt bytes p block e
  at_place =
      record {
        own = own;
        head = kind-head kind;
        id = kind-id kind;
        length = kind-length kind;
        valued = kind-valued kind;
        deleted = kind-deleted kind;
        short = short-value;
        long = long-value;
      }

-- The i-th entry that was read from a sector, oldest first, stands in block B-3-i.
pub lies_at : (B cycle : ℕ) (bytes : List ℕ) → 8 ≤ B → length bytes ≡ B * block_size
    → (i : ℕ) (d : Entry) → i < length (entries_of B cycle (sector_of B bytes))
    → LiesAt bytes (B - 3 - i) (get_or (sector_of B bytes) (B - 3 - i) []) (get_or (entries_of B cycle (sector_of B bytes)) i d)
unfolding block
lies_at B cycle bytes enough sized i d h =
    let all : Reading B cycle (sector_of B bytes) (B - 2) start (entries_of B cycle (sector_of B bytes)) = reading-of B cycle (sector_of B bytes) enough in
    let down : suc all.last + length (entries_of B cycle (sector_of B bytes)) ≡ B - 2 = took-down all.took in
    at_place B cycle bytes sized (stood (place-start B enough) all.took (B - 3 - i) i d (omega arith) h) (omega arith)
