-- An append by its parts: its stores by what is carried of the sector, that the entry fits, and the look-ahead with the entry after it.
-- Assumes nothing.
use mathlib.Core.Path.{◌≡◌, refl, sym, ap, subst, ◌∙◌}
use mathlib.Core.Bool.{true, false, not}
use mathlib.Core.List.{List, [], ◌∷◌, ◌++◌, append_assoc}
use Prim.Native.Nat.{ℕ, suc, ◌+◌, ◌-◌, ◌<◌, ◌≤◌}
use native.Mathlib.Omega.{arith}
use lib.ListN.{length, get_or}
use Rattle.std.specs.Prelude.{Result, Ok, Err, is_err}
use Rattle.rules.specs.Notation.{Each, pieces}
use Rattle.rules.specs.Ground.{Block, Image, image_of}
use Rattle.rules.specs.Look as rule
use Rattle.rules.specs.Look.{start, after, data_blocks, data_of, is_within}
use Rattle.rules.specs.Reading.{Entry, view_of, after_all, end_block, entries_of}
use Rattle.rules.specs.Meaning.{view_at}
use Rattle.rules.specs.Stores.{apply, data_stores, entry_block, append, done_entry, deletion_entry, value_entry}
use Rattle.rules.proofs.Blocks.Reading.{took-down}
use Rattle.rules.proofs.Blocks.Place.{Place, place-data, place-step, Reading, reading-of}
use Rattle.rules.proofs.Blocks.Formatted.{length-image}
use Rattle.rules.proofs.Blocks.OnImage.{view-at}
use Rattle.rules.proofs.Blocks.OnBytes.{Lies}
use Rattle.layout.specs.declared.Geometry.{Geometry}
use Rattle.layout.specs.Sizes.{Sound}
use Rattle.layout.specs.Geometry.{blocks_of, sectors_of}
use Rattle.entry.specs.declared.Head.{Head}
use Rattle.entry.specs.declared.Head.TheVariants as head
use Rattle.entry.specs.declared.new_entry.NewEntry.{NewEntry}
use Rattle.entry.specs.Answer.{scan_of, head_of, length_of}
use Rattle.image.specs.declared.active.Active.{Active}
use Rattle.image.specs.Answer.{views_in, active_as}
use Rattle.image.proofs.Laws.{scan-bounded}
use Rattle.budget.specs.declared.Cut.{Cut}
use Rattle.budget.specs.declared.Writer.{Writer}
use Rattle.budget.specs.Budget.{held, Did}
use Rattle.append.specs.Append.{entry_for, entry_of, value_blocks, ahead_stores, entry_stores, Fits}
use Rattle.budget.proofs.Laws.{did_then, did-cut, did-whole}

-- the blocks of an image
abbrev pub blocks_in : Geometry → List ℕ → Image
blocks_in g bytes = image_of (blocks_of g) (sectors_of g) bytes

-- ---- whether it still counts, by the limits

pub within-done : (B : ℕ) (scan : rule.Scan) → scan.done ≡ false → is_within B scan rule.done ≡ true
unfolding is_within
within-done B scan none = ap not none

-- ---- where the entry goes

module _ (w : Writer) (s : ℕ) {active : Active} (inside : s < sectors_of w.geometry)
    (known : active ≡ active_as s (view_at (views_in w.geometry w.image.now) s)) where
  abbrev B : ℕ
  B = blocks_of w.geometry

  known-again : active ≡ active_as s (view_of B (get_or (held w) s []))
  known-again =
      known
      ∙ ap (active_as s) (view-at B (held w) s (omega (arith, length-image B (sectors_of w.geometry) w.image.now)))

  pub append-parts : (e : Entry)
      → append B s e (held w)
      ≡ data_stores s active.scan.data_end e.blocks
      ++ entry_stores B active e.head (entry_block active.cycle active.scan.data_end e) (apply (data_stores s active.scan.data_end e.blocks) (held w))
  unfolding append entry_stores ahead_stores end_block
  append-parts e =
      let n : ℕ = length (view_of B (get_or (held w) s [])).entries in
      let below : B - 3 - (n + 1) ≡ B - 3 - n - 1 = omega arith in
      rw (known-again, below) (simp append_assoc)

  -- an entry after its data, whole or cut
  module _ (e : Entry) {T U : Type 0} {w' : Writer} {r : Result U Cut} where
    pub append-did : {x : T} {block : Block} {w'' : Writer} → Did w (data_stores s active.scan.data_end e.blocks) w' (Ok x)
        → Each (Lies B (sectors_of w.geometry)) (data_stores s active.scan.data_end e.blocks)
        → block ≡ entry_block active.cycle active.scan.data_end e
        → Did w' (entry_stores (blocks_of w'.geometry) active e.head block (held w')) w'' r
        → Did w (append B s e (held w)) w'' r
    append-did {block = block} {w'' = w''} one lie written two =
        let here = subst (λ (g : Geometry). Did w' (entry_stores (blocks_of g) active e.head block (held w')) w'' r) one.geometry two in
        let then' = subst (λ (im : Image). Did w' (entry_stores B active e.head block im) w'' r) (did-whole one lie refl) here in
        rw (append-parts e) (did_then one (rw written at then'))

    pub append-cut : {c : Cut} → Did {T = T} w (data_stores s active.scan.data_end e.blocks) w' (Err c) → is_err r ≡ true → Did w (append B s e (held w)) w' r
    append-cut one cut = rw (append-parts e) (did-cut _ one cut)

  -- its data ends below the block under its own
  module _ (h : Head) (within : is_within B (scan_of active.scan) (head_of h) ≡ true) where
    stepped : (p : ℕ) × (p + 3 + active.entries ≡ B) × Place B p (after (scan_of active.scan) (head_of h))
    unfolding view_of
    stepped =
        let sector = get_or (held w) s [] in
        let cycle : ℕ = (view_of B sector).cycle in
        let enough : 8 ≤ B = w.geometry.sound.blocks_from in
        let all : Reading B cycle sector (B - 2) start (entries_of B cycle sector) = reading-of B cycle sector enough in
        let fits : is_within B (after_all start (entries_of B cycle sector)) (head_of h) ≡ true = rw known-again at within in
        let down : suc all.last + length (entries_of B cycle sector) ≡ B - 2 = took-down all.took in
        rw known-again (all.last, omega arith, place-step (head_of h) fits all.place)

    pub room : active.scan.data_end + data_of (head_of h) + 3 + active.entries < B
    unfolding after
    room = let (p, down, place') = stepped in omega (arith, down, place-data place')

    pub fits : Fits B active h
    unfolding after
    fits =
        let (p, down, place') = stepped in
        let sound : Sound (blocks_of w.geometry) (sectors_of w.geometry) = w.geometry.sound in
        let below : active.scan.data_end + data_of (head_of h) < p = place-data place' in
        record {
          few = omega arith;
          before = rw known (scan-bounded w.geometry w.image.now s inside).small;
          after = record { needs = omega (arith, place'.room, sound.blocks_to); data_end = omega (arith, sound.blocks_to) };
        }

-- ---- an entry by its head and the bytes of its value

no-data : (value : List ℕ) → 0 ≡ length value → value_blocks value ≡ []
unfolding value_entry data_blocks pieces
no-data [] none = refl
no-data (x ∷ value) none = absurd (omega arith)

blocks-for : (h : Head) (value : List ℕ) → length_of h ≡ length value → value_blocks value ≡ (entry_for h value).blocks
unfolding done_entry deletion_entry value_entry
blocks-for head.Done value none = no-data value none
blocks-for (head.Deletion id) value none = no-data value none
blocks-for (head.Value id len) value same = refl

head-for : (h : Head) (value : List ℕ) → length_of h ≡ length value → (entry_for h value).head ≡ head_of h
unfolding done_entry deletion_entry value_entry
head-for head.Done value none = refl
head-for (head.Deletion id) value none = refl
head-for (head.Value id len) value same = ap (rule.value id) (sym same)

data-for : (h : Head) (value : List ℕ) → length_of h ≡ length value → data_of (head_of h) ≡ data_blocks (length value)
unfolding data_of data_blocks
data-for head.Done [] none = refl
data-for head.Done (x ∷ value) none = absurd (omega arith)
data-for (head.Deletion id) [] none = refl
data-for (head.Deletion id) (x ∷ value) none = absurd (omega arith)
data-for (head.Value id len) value same = ap data_blocks same

module _ (e : NewEntry) where
  -- its data blocks are those of the value, and its head is the head
  pub entry-data : value_blocks e.value.now ≡ (entry_of e).blocks
  entry-data = blocks-for e.head e.value.now e.sized

  pub entry-head : (entry_of e).head ≡ head_of e.head
  entry-head = head-for e.head e.value.now e.sized

  -- and so are their number
  pub data-of : data_of (head_of e.head) ≡ data_blocks (length e.value.now)
  data-of = data-for e.head e.value.now e.sized
