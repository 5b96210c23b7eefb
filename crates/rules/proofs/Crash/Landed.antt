-- What an answer 0 says of the call: it was not refused, so the sizes are legal, and a write or a delete began at rest.
use Rattle.std.specs.Prelude.{if◌then◌else◌}
use mathlib.Core.Path.{◌≡◌, refl, sym, ap, ◌∙◌}
use mathlib.Core.Bool.{Bool, true, false}
use mathlib.Core.List.{List}
use mathlib.Core.Logic.{⊎_elim}
use mathlib.Core.Option.{Option, none, some}
use Prim.Native.Nat.{ℕ, ◌-◌, ◌/◌, ◌≤◌}
use native.Mathlib.Omega.{arith}
use lib.Dec.{eqb, leb, ltb}
use lib.ListN.{length}
use borrow.Author.Tests.{eqb-false, leb-true, leb-false}
use Rattle.rules.specs.Notation.{is_empty}
use Rattle.rules.specs.Ground.{Image, block_size, legal_sizes, image_of, reserved_id, kept_from_values, kept_from_deletions}
use Rattle.rules.specs.Look.{need_of}
use Rattle.rules.specs.Reading.{Entry}
use Rattle.rules.specs.Meaning.{State, at_rest, not_reopened, mid_turn, views_of, Is, state_of, history, lookup}
use Rattle.rules.specs.Stores.{Store, moved, value_entry, deletion_entry}
use Rattle.rules.specs.Calls.{Answer, Due, refuse, make, Refusal, geometry, no_store, unfinished, reserved, empty, too_long, absent, answer, answer_numbers, in_rest, at_sizes, format_on, mount_on, change_on, write_on, delete_on, format_due, mount_due, write_due, delete_due, leaves}
use Rattle.rules.specs.Demands.{Call, mount, write, delete, Typed, AreBytes, due, views}
use Rattle.rules.proofs.Terms.{IsImage}
use Rattle.rules.proofs.Format.Ground.{legal-bounds}
use Rattle.rules.proofs.Ring.States.{state-is}
use Rattle.rules.proofs.Due.Calls.{answer-cut}
use Rattle.rules.proofs.Blocks.OnBytes.{image-of-bytes}
use Rattle.rules.proofs.Blocks.OnImage.{views-length}
use Rattle.rules.proofs.Crash.Standing.{settled, Stands}
use Rattle.rules.proofs.Crash.Mounting.{Settled, SettledAt, works_after, rest-settled}
use Rattle.rules.proofs.Crash.Leaving.{refusal-number, lookup-after, Left, call-left}
use Rattle.rules.proofs.Basics.Notation.{by-test}

-- a call with this allowance answers 0
abbrev pub Lands : Due → (budget : ℕ) → Type 0
Lands what a = (answer_numbers (answer what a)).number ≡ 0

module _ (a : ℕ) where
  refused-not : (r : Refusal) → Lands (refuse r) a → ⊥
  unfolding answer answer_numbers
  refused-not r e = omega (arith, refusal-number r)

  pub landed-enough : (stores : List Store) (turns : ℕ) → Lands (make stores turns) a → length stores ≤ a
  unfolding answer_numbers
  landed-enough stores turns e =
      by-test (leb (length stores) a)
      (λ enough. leb-true (length stores) a enough)
      (λ short. let cut : ◌≡◌ {A = ℕ} 11 0 = sym (ap (λ (x : Answer). (answer_numbers x).number) (answer-cut stores turns a (leb-false (length stores) a short))) ∙ e in absurd (omega arith))

  -- a check that was passed
  passed : (b : Bool) (r : Refusal) (what : Due) → Lands (if b then refuse r else what) a → (b ≡ false) × Lands what a
  passed true r what e = absurd (refused-not r e)
  passed false r what e = (refl, e)

  sized : (size count : ℕ) (image : List ℕ) (call : (B S : ℕ) → Image → Due) → Lands (at_sizes size count image refuse call) a
      → (legal_sizes size count (length image) ≡ true) × Lands (call (size / block_size) count (image_of (size / block_size) count image)) a
  unfolding at_sizes
  sized size count image call e = go (legal_sizes size count (length image)) refl e
    where
      go : (b : Bool) → legal_sizes size count (length image) ≡ b → Lands (if b then call (size / block_size) count (image_of (size / block_size) count image) else refuse geometry) a
          → (legal_sizes size count (length image) ≡ true) × Lands (call (size / block_size) count (image_of (size / block_size) count image)) a
      go true is e = (is, e)
      go false is e = absurd (refused-not geometry e)

  rested : (o : Option State) (call : ℕ → Due) → Lands (in_rest o refuse call) a → (w : ℕ) × (o ≡ some (at_rest w))
  unfolding in_rest
  rested none call e = absurd (refused-not no_store e)
  rested (some (at_rest w)) call e = (w, refl)
  rested (some (not_reopened w)) call e = absurd (refused-not unfinished e)
  rested (some (mid_turn u)) call e = absurd (refused-not unfinished e)

-- A change that landed: of a user's ID, at legal sizes, from rest.
pub record IsLanded (size count : ℕ) (image : List ℕ) (id : ℕ) : Type 0 where
  pub legal : legal_sizes size count (length image) ≡ true
  pub user : id ≡ reserved_id → ⊥
  pub working : ℕ
  pub rests : state_of (views size count image) ≡ some (at_rest working)

module _ (size count : ℕ) (image : List ℕ) (a : ℕ) where
  abbrev B : ℕ
  B = size / block_size

  abbrev im : Image
  im = image_of B count image

  abbrev state : Option State
  state = state_of (views_of B im)

  pub format-legal : Lands (format_due size count image) a → legal_sizes size count (length image) ≡ true
  unfolding format_due
  format-legal e = (sized a size count image (λ B S im. format_on B S im) e).0

  pub call-legal : (call : Call) → Lands (due size count image call) a → legal_sizes size count (length image) ≡ true
  unfolding due mount_due write_due delete_due
  call-legal (mount n) e = (sized a size count image (λ B S im. mount_on B S im) e).0
  call-legal (write id bytes n) e = (sized a size count image (λ B S im. write_on B S im id bytes) e).0
  call-legal (delete id n) e = (sized a size count image (λ B S im. delete_on B S im id) e).0

  pub write-landed : (id : ℕ) (bytes : List ℕ) → Lands (write_due size count image id bytes) a → IsLanded size count image id
  unfolding write_due write_on views
  write-landed id bytes e =
      let (legal, e₁) = sized a size count image (λ B S im. write_on B S im id bytes) e in
      let (user, e₂) = passed a (eqb id reserved_id) reserved (if is_empty bytes then refuse empty else by-need) e₁ in
      let (filled, e₃) = passed a (is_empty bytes) empty by-need e₂ in
      let (short, e₄) = passed a (ltb (B - kept_from_values) (need_of (value_entry id bytes).head)) too_long at_rest_lem e₃ in
      let (w, is) = rested a state (λ w. change_on B count w (B - kept_from_values) (value_entry id bytes) im) e₄ in
      record { legal = legal; user = eqb-false id reserved_id user; working = w; rests = is }
    where
      at_rest_lem : Due
      at_rest_lem = in_rest state refuse (λ w. change_on B count w (B - kept_from_values) (value_entry id bytes) im)

      by-need : Due
      by-need = if ltb (B - kept_from_values) (need_of (value_entry id bytes).head) then refuse too_long else at_rest_lem

  pub delete-landed : (id : ℕ) → Lands (delete_due size count image id) a → IsLanded size count image id
  unfolding delete_due delete_on views
  delete-landed id e =
      let (legal, e₁) = sized a size count image (λ B S im. delete_on B S im id) e in
      let (user, e₂) = passed a (eqb id reserved_id) reserved (in_rest state refuse by-lookup) e₁ in
      let (w, is) = rested a state by-lookup e₂ in
      record { legal = legal; user = eqb-false id reserved_id user; working = w; rests = is }
    where
      by-lookup : ℕ → Due
      by-lookup w =
          elim (lookup id (history (at_rest w) (views_of B im))) [
            | none ↦ refuse absent
            | some e ↦ change_on B count w (B - kept_from_deletions) (deletion_entry id) im
          ]

-- An image at rest stands, and tells what it tells.
module _ (size count : ℕ) (image : List ℕ) (typed : AreBytes image) (legal : legal_sizes size count (length image) ≡ true) (w : ℕ) (rests : state_of (views size count image) ≡ some (at_rest w)) where
  abbrev pub told : ℕ → Option Entry
  told id = lookup id (history (at_rest w) (views size count image))

  pub rest-whole : IsImage (size / block_size) count (image_of (size / block_size) count image)
  unfolding AreBytes
  rest-whole = image-of-bytes (size / block_size) count image typed (legal-bounds size count (length image) legal).exact

  number-of-views : length (views size count image) ≡ count
  unfolding views
  number-of-views = views-length (size / block_size) (image_of (size / block_size) count image) ∙ rest-whole.sized

  pub rest-told : Settled count told (views size count image)
  unfolding Is
  rest-told =
      rest-settled count (legal-bounds size count (length image) legal).sectors_from told (views size count image) number-of-views w (state-is (views size count image) (at_rest w) rests) (λ id. refl)

  stands : Stands count told (views size count image)
  unfolding settled
  stands = record { sized = number-of-views; state = at_rest w; is = state-is (views size count image) (at_rest w) rests; matches = λ id. refl; matches_later = λ id. refl }

  -- and a call that landed on it leaves it at rest, the working sector moved by the turns told
  pub record IsLeft (call : Call) (after : List ℕ) (turns : ℕ) : Type 0 where
    pub sizes : legal_sizes size count (length after) ≡ true
    pub whole : IsImage (size / block_size) count (image_of (size / block_size) count after)
    pub settles : SettledAt count (lookup-after call told) (moved count turns w) (views size count after)

  pub call-landed : (call : Call) (a : ℕ) → Typed call → Lands (due size count image call) a
      → IsLeft call (leaves size (due size count image call) a image) (answer_numbers (answer (due size count image call) a)).turns
  unfolding stands works_after
  call-landed call a ok e =
      let left : Left size count image call a (at_rest w) told = call-left size count image legal rest-whole call a ok stands in
      record { sizes = left.legal; whole = left.whole; settles = ⊎_elim (λ t. t.1) (λ t. absurd (t.0 e)) left.stood }
