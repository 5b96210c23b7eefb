-- A fresh store of any sizes: its blocks, whatever bytes it was made on, and what the calls answer there.
use mathlib.Core.Path.{◌≡◌, refl, sym, ap, subst, ◌∙◌}
use mathlib.Core.Bool.{Bool, true, false}
use mathlib.Core.List.{List, []}
use mathlib.Core.Option.{none, some}
use Prim.Native.Nat.{ℕ, suc, ◌+◌, ◌*◌, ◌-◌, ◌/◌, ◌≤◌}
use native.Mathlib.Nat.{mul-le-mul}
use native.Mathlib.Omega.{arith}
use lib.Dec.{leb}
use lib.ListN.{length, take}
use lib.Seq.{take_all}
use borrow.Author.Tests.{leb-true, le-leb, ne_eqb}
use Rattle.rules.specs.Notation.{Each}
use Rattle.rules.specs.Ground.{Image, block_size, reserved_id, legal_sizes, image_of}
use Rattle.rules.specs.Reading.{View}
use Rattle.rules.specs.Meaning.{at_rest, views_of, view_at, state_of, history, lookup, needs_of}
use Rattle.rules.specs.Stores as stores
use Rattle.rules.specs.Stores.{Store, apply, nothing, format}
use Rattle.rules.specs.Calls.{Due, make, refuse, geometry, absent, Answer, done, Reply, answer, answer_numbers, refusal_number, made, in_state, in_rest, mount_turns, format_on, mount_on, delete_on, read_entry, read_on, format_due, mount_due, delete_due, read, leaves}
use Rattle.rules.specs.Demands.{plenty, views}
use Rattle.bench_rows.specs.BenchSheet.{Fresh, formatted, HoldsNothing, IsAbsent}
use Rattle.rules.proofs.Format.Ground.{legal-bounds}
use Rattle.rules.proofs.Computing.{computing}
use Rattle.rules.proofs.Blocks.OnBytes.{Lies, inside-lie, HasBlocks, call-on, call-off, leaves-on}
use Rattle.rules.proofs.Blocks.Formatted.{final_image, format-inside, format-bytes, length-format}
use Rattle.rules.proofs.Blocks.FormattedViews.{fresh_views, fresh-views, fresh-rests, fresh-history, done-matches}

-- an answer 0 says that the sizes are legal, and that all stores were made
formats : (size count : ℕ) (bytes : List ℕ) (a : ℕ) → (answer_numbers (answer (format_due size count bytes) a)).number ≡ 0
    → legal_sizes size count (length bytes) ≡ true
unfolding format_due answer answer_numbers refusal_number
formats size count bytes a answered = go (legal_sizes size count (length bytes)) refl
  where
    go : (b : Bool) → legal_sizes size count (length bytes) ≡ b → legal_sizes size count (length bytes) ≡ true
    go true e = e
    go false e =
        let off : format_due size count bytes ≡ refuse geometry = call-off size count bytes e refuse format_on in
        let z : ◌≡◌ {A = ℕ} 1 0 = ap (λ (d : Due). (answer_numbers (answer d a)).number) (sym off) ∙ answered in
        absurd (omega arith)

makes : (ss : List Store) (turns a : ℕ) → (answer_numbers (answer (make ss turns) a)).number ≡ 0 → made (make ss turns) a ≡ ss
unfolding answer answer_numbers made
makes ss turns a answered = go (leb (length ss) a) refl
  where
    go : (b : Bool) → leb (length ss) a ≡ b → take a ss ≡ ss
    go true e = take_all a ss (leb-true (length ss) a e)
    go false e =
        let z : ◌≡◌ {A = ℕ} 11 0 = simp e at answered in
        absurd (omega arith)

pub fresh-blocks : (size count : ℕ) {image : List ℕ} → Fresh size count image → HasBlocks size count image (final_image (size / block_size) 0 count)
unfolding format_due format_on
fresh-blocks size count (formatted bytes a answered) =
    let B : ℕ = size / block_size in
    let legal = formats size count bytes a answered in
    let bounds = legal-bounds size count (length bytes) legal in
    let whole : HasBlocks size count bytes (image_of B count bytes) = record { legal = legal; blocks = refl } in
    let what : format_due size count bytes ≡ make (format B count) 0 = call-on size count whole refuse format_on in
    let all_made : (answer_numbers (answer (make (format B count) 0) a)).number ≡ 0 = subst (λ (d : Due). (answer_numbers (answer d a)).number ≡ 0) what answered in
    let ss : made (make (format B count) 0) a ≡ format B count = makes (format B count) 0 a all_made in
    let inside : Each (Lies B count) (made (make (format B count) 0) a) = rw ss (inside-lie (format-inside B count (omega arith) (omega arith))) in
    let left = leaves-on size count whole (make (format B count) 0) a inside in
    let final : apply (made (make (format B count) 0) a) (image_of B count bytes) ≡ final_image B 0 count =
    ap (λ (l : List Store). apply l (image_of B count bytes)) ss ∙ format-bytes B count bytes (omega arith) (omega arith) in
    subst (λ (d : Due). HasBlocks size count (leaves size d a bytes) (final_image B 0 count)) (sym what)
    (subst (λ (im : Image). HasBlocks size count (leaves size (make (format B count) 0) a bytes) im) final left)

-- Legal sizes are small enough for any format to be whole.
pub fresh-made : (size count : ℕ) (bytes : List ℕ) → legal_sizes size count (length bytes) ≡ true
    → answer (format_due size count bytes) plenty ≡ done (1 + count * (size / block_size)) 0
unfolding format_due format_on answer
fresh-made size count bytes legal =
    let B : ℕ = size / block_size in
    let bounds = legal-bounds size count (length bytes) legal in
    let whole : HasBlocks size count bytes (image_of B count bytes) = record { legal = legal; blocks = refl } in
    let many : length (format B count) ≡ 1 + count * B = length-format B count (omega arith) (omega arith) in
    let few : count * B ≤ 64 * 4096 = mul-le-mul bounds.sectors_to bounds.blocks_to in
    ap (λ (d : Due). answer d plenty) (call-on size count whole refuse format_on)
    ∙ simp (many, le-leb (1 + count * B) plenty (omega arith))

-- What the calls answer on these blocks.
module _ (B S : ℕ) (blocks : 8 ≤ B) (sectors : 2 ≤ S) where
  shows : views_of B (final_image B 0 S) ≡ fresh_views (S - 2)
  shows =
      let more : S ≡ suc (suc (S - 2)) = omega arith in
      ap (λ (n : ℕ). views_of B (final_image B 0 n)) more ∙ fresh-views B blocks (S - 2)

  pub rests : state_of (views_of B (final_image B 0 S)) ≡ some (at_rest 0)
  rests = ap state_of shows ∙ fresh-rests (S - 2)

  pub matches-nothing : (id : ℕ) → lookup id (history (at_rest 0) (views_of B (final_image B 0 S))) ≡ none
  matches-nothing id =
      ap (λ (vs : List View). lookup id (history (at_rest 0) vs)) shows ∙ ap (lookup id) (fresh-history (S - 2)) ∙ done-matches id

  pub open-needs : needs_of (view_at (views_of B (final_image B 0 S)) 0).entries ≡ 0
  unfolding computing
  open-needs = ap (λ (vs : List View). needs_of (view_at vs 0).entries) shows

  mounts-nothing : mount_on B S (final_image B 0 S) ≡ make [] 0
  unfolding mount_on in_state stores.mount nothing mount_turns
  mounts-nothing = simp rests

  module _ (id : ℕ) (user : id ≡ reserved_id → ⊥) where
    reads_nothing_lem : (buffer_length : ℕ) → read_on B S (final_image B 0 S) id buffer_length ≡ Reply.refused absent
    unfolding read_on in_rest read_entry
    reads_nothing_lem buffer_length = simp (ne_eqb id reserved_id user, rests, matches-nothing id)

    deletes-nothing : delete_on B S (final_image B 0 S) id ≡ refuse absent
    unfolding delete_on in_rest
    deletes-nothing = simp (ne_eqb id reserved_id user, rests) (rw (matches-nothing id, in_rest))

-- Bench sheet, row 12.
pub holds-nothing : (size count : ℕ) (image : List ℕ) → Fresh size count image → HoldsNothing size count image
unfolding read mount_due delete_due answer
holds-nothing size count image fresh =
    let B : ℕ = size / block_size in
    let c = fresh-blocks size count fresh in
    let bounds = legal-bounds size count (length image) c.legal in
    record {
      reads = λ id buffer_length user.
          call-on size count c Reply.refused (λ B S im. read_on B S im id buffer_length)
          ∙ reads_nothing_lem B count bounds.blocks_from bounds.sectors_from id user buffer_length;
      mounts = λ a.
          ap (λ (d : Due). answer d a) (call-on size count c refuse mount_on ∙ mounts-nothing B count bounds.blocks_from bounds.sectors_from)
          ∙ simp (le-leb 0 a (omega arith));
      deletes = λ id a user.
          ap (λ (d : Due). answer d a)
          (call-on size count c refuse (λ B S im. delete_on B S im id) ∙ deletes-nothing B count bounds.blocks_from bounds.sectors_from id user);
    }

-- And its delete, of every image at rest.
pub deletes-absent : (size count : ℕ) (image : List ℕ) (id a : ℕ) → IsAbsent size count image id → answer (delete_due size count image id) a ≡ Answer.refused absent
unfolding delete_due delete_on in_rest answer views
deletes-absent size count image id a x =
    let whole : HasBlocks size count image (image_of (size / block_size) count image) = record { legal = x.legal; blocks = refl } in
    let what : delete_on (size / block_size) count (image_of (size / block_size) count image) id ≡ refuse absent =
    simp (ne_eqb id reserved_id x.user, x.rests) (rw (x.told, in_rest)) in
    ap (λ (d : Due). answer d a) (call-on size count whole refuse (λ B S im. delete_on B S im id) ∙ what)
