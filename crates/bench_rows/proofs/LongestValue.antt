-- How long a value may be: B-6 data blocks. Longer ones are refused, and in a fresh store every other one lands.
use Rattle.std.specs.Prelude.{if◌then◌else◌}
use mathlib.Core.Path.{◌≡◌, refl, sym, ap, ◌∙◌}
use mathlib.Core.Bool.{Bool, true, false}
use mathlib.Core.List.{List, [], ◌∷◌}
use mathlib.Core.Logic.{◌↔◌}
use mathlib.Core.Option.{Option, none, some}
use Prim.Native.Nat.{ℕ, suc, ◌+◌, ◌*◌, ◌-◌, ◌/◌, ◌<◌, ◌≤◌}
use native.Mathlib.Omega.{arith}
use lib.Dec.{leb, ltb}
use lib.ListN.{length, length-append}
use borrow.Author.Tests.{lt-ltb, le-ltb, ltb-true, ltb-false, ne_eqb, le-leb, leb-true, leb-false}
use Rattle.rules.specs.Notation.{is_empty}
use Rattle.rules.specs.Ground.{Block, Image, block_size, reserved_id, legal_sizes, image_of, kept_from_values}
use Rattle.rules.specs.Look.{data_blocks, need_of}
use Rattle.rules.specs.Reading.{Entry}
use Rattle.rules.specs.Meaning.{State, at_rest, not_reopened, mid_turn, views_of, state_of}
use Rattle.rules.specs.Stores.{Store, apply, nothing, ◌and_then◌, data_stores, blank_if, append, turns, moved, first_fit, least_turns, change, value_entry}
use Rattle.rules.specs.Calls.{Due, make, refuse, too_long, no_room, refusal_number, answer, answer_numbers, in_rest, change_on, write_on, write_due}
use Rattle.rules.specs.Demands.{plenty}
use Rattle.bench_rows.specs.BenchSheet.{Longest}
use Rattle.rules.proofs.Format.Ground.{length-pieces, legal-bounds}
use Rattle.rules.proofs.Format.Look.{need-blocks}
use Rattle.rules.proofs.Blocks.OnBytes.{HasBlocks, call-on}
use Rattle.rules.proofs.Blocks.Formatted.{final_image}
use Rattle.bench_rows.proofs.Fresh.{fresh-blocks, rests, open-needs}

-- ---- the need of a length

module _ (B len : ℕ) (enough : 8 ≤ B) where
  too_long_lem : (B - 6) * block_size < len → B - kept_from_values < 1 + data_blocks len
  too_long_lem h = let d : data_blocks len ≡ (len + 15) / block_size = (need-blocks len).0 (omega arith) in omega arith

  not-too-long : len ≤ (B - 6) * block_size → 1 + data_blocks len ≤ B - kept_from_values
  not-too-long h = go (leb len 8) refl
    where
      go : (b : Bool) → leb len 8 ≡ b → 1 + data_blocks len ≤ B - kept_from_values
      go true e = let d : data_blocks len ≡ 0 = (need-blocks len).1 (leb-true len 8 e) in omega arith
      go false e = let d : data_blocks len ≡ (len + 15) / block_size = (need-blocks len).0 (leb-false len 8 e) in omega arith

-- ---- refusal 6

-- the number of a refusal, 0 of what is made
number : Due → ℕ
number (refuse r) = refusal_number r
number (make stores turns) = 0

-- a change goes by the least number of turns
module _ (B S w limit : ℕ) (e : Entry) (im : Image) where
  unfoldable pub turned : Option ℕ → Due
  turned none = refuse no_room
  turned (some turns) = make (change B S turns w e im) turns

  pub change-by : change_on B S w limit e im ≡ turned (least_turns (need_of e.head) limit w (views_of B im))
  unfolding change_on turned
  change-by = refl

  -- past the check of the need nothing gives 6
  change-number : number (change_on B S w limit e im) ≡ 6 → ⊥
  unfolding number refusal_number turned
  change-number h = go (least_turns (need_of e.head) limit w (views_of B im)) (ap number (sym change-by) ∙ h)
    where
      go : (o : Option ℕ) → number (turned o) ≡ 6 → ⊥
      go none h' = omega arith
      go (some turns) h' = omega arith

rest-number : (o : Option State) (call : ℕ → Due) → ((w : ℕ) → number (call w) ≡ 6 → ⊥) → number (in_rest o refuse call) ≡ 6 → ⊥
unfolding in_rest number refusal_number
rest-number none call never h = omega arith
rest-number (some (at_rest w)) call never h = never w h
rest-number (some (not_reopened w)) call never h = omega arith
rest-number (some (mid_turn u)) call never h = omega arith

not-empty : (value : List ℕ) → 1 ≤ length value → is_empty value ≡ false
unfolding is_empty
not-empty [] h = absurd (omega arith)
not-empty (b ∷ bs) h = refl

module _ (B S : ℕ) (im : Image) (id : ℕ) (value : List ℕ) (user : id ≡ reserved_id → ⊥) (some_bytes : 1 ≤ length value) where
  -- a write, after its checks 4 and 5
  write_checked : write_on B S im id value
      ≡ (if ltb (B - kept_from_values) (1 + data_blocks (length value)) then refuse too_long
      else in_rest (state_of (views_of B im)) refuse (λ w. change_on B S w (B - kept_from_values) (value_entry id value) im))
  unfolding write_on value_entry need_of
  write_checked = simp (ne_eqb id reserved_id user, not-empty value some_bytes)

  -- and after check 6
  pub write-fits : 1 + data_blocks (length value) ≤ B - kept_from_values
      → write_on B S im id value ≡ in_rest (state_of (views_of B im)) refuse (λ w. change_on B S w (B - kept_from_values) (value_entry id value) im)
  write-fits h = write_checked ∙ simp (le-ltb (B - kept_from_values) (1 + data_blocks (length value)) h)

  refuses-longer : 8 ≤ B → (write_on B S im id value ≡ refuse too_long) ↔ ((B - 6) * block_size < length value)
  unfolding number refusal_number
  refuses-longer enough = (
    λ h. go (ltb ((B - 6) * block_size) (length value)) h refl,
    λ h. write_checked ∙ simp (lt-ltb (B - kept_from_values) (1 + data_blocks (length value)) (too_long_lem B (length value) enough h)),
  )
    where
      go : (b : Bool) → write_on B S im id value ≡ refuse too_long → ltb ((B - 6) * block_size) (length value) ≡ b → (B - 6) * block_size < length value
      go true h e = ltb-true _ _ e
      go false h e =
          let fits = write-fits (not-too-long B (length value) enough (ltb-false _ _ e)) in
          absurd (rest-number (state_of (views_of B im)) _ (λ w. change-number B S w _ _ im) (ap number (sym fits ∙ h)))

-- ---- a write that lands

two-more : (k : ℕ) (test : Bool) (s b : ℕ) → k + length (blank_if test s b) + 1 ≤ k + 2
unfolding blank_if
two-more k true s b = omega arith
two-more k false s b = omega arith

pub length-data-stores : (s b : ℕ) (blocks : List Block) → length (data_stores s b blocks) ≡ length blocks
unfolding data_stores
length-data-stores s b [] = refl
length-data-stores s b (x ∷ xs) = ap suc (length-data-stores s (suc b) xs)

-- an append makes at most two stores more than its data blocks
pub append-length : (B s : ℕ) (e : Entry) (im : Image) → length (append B s e im) ≤ length e.blocks + 2
unfolding append
append-length B s e im = simp (length-append, length-data-stores) (two-more _ _ _ _)

-- In a fresh store a write of a need that a sector has takes no turn.
module _ (B S : ℕ) (blocks : 8 ≤ B) (few : B ≤ 4096) (sectors : 2 ≤ S) (id : ℕ) (value : List ℕ) (user : id ≡ reserved_id → ⊥) (some_bytes : 1 ≤ length value)
    (fits : 1 + data_blocks (length value) ≤ B - kept_from_values) where
  no-turn : least_turns (need_of (value_entry id value).head) (B - kept_from_values) 0 (views_of B (final_image B 0 S)) ≡ some 0
  unfolding least_turns first_fit value_entry need_of
  no-turn = simp (open-needs B S blocks sectors, le-leb (0 + (1 + data_blocks (length value))) (B - kept_from_values) (omega arith))

  succeeds : write_on B S (final_image B 0 S) id value ≡ make (append B 0 (value_entry id value) (final_image B 0 S)) 0
  unfolding in_rest turned change turns moved ◌and_then◌ nothing apply
  succeeds = write-fits B S (final_image B 0 S) id value user some_bytes fits ∙ simp (rests B S blocks sectors) (change-by B S 0 (B - kept_from_values) (value_entry id value) (final_image B 0 S) ∙ simp no-turn)

  succeeds-number : (answer_numbers (answer (write_on B S (final_image B 0 S) id value) plenty)).number ≡ 0
  unfolding answer answer_numbers value_entry
  succeeds-number =
      let stores : List Store = append B 0 (value_entry id value) (final_image B 0 S) in
      let data-blocks : length (value_entry id value).blocks ≡ data_blocks (length value) = length-pieces (data_blocks (length value)) block_size _ in
      let enough : length stores ≤ plenty = omega (arith, append-length B 0 (value_entry id value) (final_image B 0 S)) in
      ap (λ (d : Due). (answer_numbers (answer d plenty)).number) succeeds ∙ simp (le-leb (length stores) plenty enough)

-- Bench sheet, row 1, at any legal sizes.
pub longest-value : (size count longest : ℕ) → legal_sizes size count (count * size) ≡ true → longest ≡ (size / block_size - 6) * block_size → Longest size count longest
unfolding write_due
longest-value size count longest legal is =
    let B : ℕ = size / block_size in
    let bounds = legal-bounds size count (count * size) legal in
    record {
      accepts = λ image id value fresh user some_bytes short.
          ap (λ (d : Due). (answer_numbers (answer d plenty)).number) (call-on size count (fresh-blocks size count fresh) refuse (λ B S im. write_on B S im id value))
          ∙ succeeds-number B count bounds.blocks_from bounds.blocks_to bounds.sectors_from id value user some_bytes (not-too-long B (length value) bounds.blocks_from (omega arith));
      refuses_longer = λ image id value sized user some_bytes.
          let whole : HasBlocks size count image (image_of B count image) = record { legal = ap (legal_sizes size count) sized ∙ legal; blocks = refl } in
          let written = call-on size count whole refuse (λ B S im. write_on B S im id value) in
          let iff = refuses-longer B count (image_of B count image) id value user some_bytes bounds.blocks_from in
          (λ h. rw is (iff.0 (sym written ∙ h)), λ h. written ∙ iff.1 (omega arith));
    }
