-- What a call with any allowance leaves of an image that stands: on 0 the change, on any other answer what was told before.
use mathlib.Core.Path.{◌≡◌, refl, sym, subst}
use mathlib.Core.Bool.{true}
use mathlib.Core.List.{List}
use mathlib.Core.Logic.{◌⊎◌, inl, inr}
use mathlib.Core.Option.{Option}
use Prim.Native.Nat.{ℕ, ◌/◌, ◌≤◌}
use native.Mathlib.Omega.{arith}
use lib.Dec.{leb}
use lib.ListN.{length}
use lib.Seq.{take_all}
use borrow.Author.Tests.{leb-true, leb-false}
use Rattle.rules.specs.Notation.{Each}
use Rattle.rules.specs.Ground.{Image, block_size, legal_sizes, image_of}
use Rattle.rules.specs.Reading.{Entry, View}
use Rattle.rules.specs.Meaning.{State, views_of}
use Rattle.rules.specs.Stores.{Store, apply, value_entry, deletion_entry}
use Rattle.rules.specs.Calls.{Due, Refusal, geometry, no_store, unfinished, reserved, empty, too_long, no_room, absent, bad_data, short_buffer, refusal_number, answer, answer_numbers, made, leaves}
use Rattle.rules.specs.Demands.{Call, mount, write, delete, Typed, writes, deletes, IsId, AreBytes, due, views}
use Rattle.rules.proofs.Terms.{IsImage, IsInside}
use Rattle.rules.proofs.Basics.Notation.{by-test}
use Rattle.rules.proofs.Basics.Parts.{each_take}
use Rattle.rules.proofs.Format.Ground.{Bounds, legal-bounds}
use Rattle.rules.proofs.Blocks.OnBytes.{HasBlocks, due_on, due-on, leaves-on, inside-lie}
use Rattle.rules.proofs.Blocks.OnImage.{apply-image}
use Rattle.rules.proofs.Crash.Standing.{Stands}
use Rattle.rules.proofs.Crash.Mounting.{SettledAt, works_after}
use Rattle.rules.proofs.Crash.Changing.{updated}
use Rattle.rules.proofs.Crash.Effects.{Effect, refuses, makes, mount-effect, write-effect, delete-effect}

-- refusals have no number 0
pub refusal-number : (r : Refusal) → 1 ≤ refusal_number r
unfolding refusal_number
refusal-number geometry = omega arith
refusal-number no_store = omega arith
refusal-number unfinished = omega arith
refusal-number reserved = omega arith
refusal-number empty = omega arith
refusal-number too_long = omega arith
refusal-number no_room = omega arith
refusal-number absent = omega arith
refusal-number bad_data = omega arith
refusal-number (short_buffer len) = omega arith

-- what a call's answer number and turns say of the views after it
abbrev pub Stood : (S : ℕ) (state : State) (T T' : ℕ → Option Entry) (number turns : ℕ) → List View → Type 0
Stood S state T T' number turns vs = ((number ≡ 0) × SettledAt S T' (works_after S turns state) vs) ⊎ ((number ≡ 0 → ⊥) × Stands S T vs)

module _ (B S : ℕ) (im : Image) {state : State} {T T' : ℕ → Option Entry} where
  pub effect-inside : {what : Due} (a : ℕ) → Effect B S im state T T' what → Each (IsInside B S) (made what a)
  unfolding made
  effect-inside a (refuses r) = Each.empty
  effect-inside a (makes plan turns g) = each_take a g.inside

  -- After a call with any allowance: on 0 the change stands, on any other answer it doesn't.
  effect-stands : {what : Due} (a : ℕ) → Effect B S im state T T' what → Stands S T (views_of B im)
      → Stood S state T T' (answer_numbers (answer what a)).number (answer_numbers (answer what a)).turns (views_of B (apply (made what a) im))
  unfolding answer answer_numbers made apply
  effect-stands a (refuses r) s = inr ((λ e. omega (arith, refusal-number r)), s)
  effect-stands a (makes plan turns g) s =
      by-test (leb (length (plan im)) a)
      (λ enough.
      simp enough
      (inl (
        refl,
        subst (λ (ss : List Store). SettledAt S T' (works_after S turns state) (views_of B (apply ss im))) (sym (take_all a (plan im) (leb-true (length (plan im)) a enough))) g.whole,
      )))
      (λ short. inr ((λ e. not-cut (simp short at e)), g.cut a (leb-false (length (plan im)) a short)))
    where
      not-cut : ◌≡◌ {A = ℕ} 11 0 → ⊥
      not-cut e = omega arith

-- what is told after a call that answered 0
unfoldable pub lookup-after : Call → (ℕ → Option Entry) → ℕ → Option Entry
lookup-after (mount a) T = T
lookup-after (write id bytes a) T = updated (value_entry id bytes) T
lookup-after (delete id a) T = updated (deletion_entry id) T

pub call-effect : (B S : ℕ) (im : Image) (T : ℕ → Option Entry) (call : Call) → 8 ≤ B → B ≤ 4096 → 2 ≤ S → IsImage B S im → Typed call → (s : Stands S T (views_of B im))
    → Effect B S im s.state T (lookup-after call T) (due_on B S im call)
unfolding lookup-after due_on IsId AreBytes
call-effect B S im T (mount a) big most two ok typed s = mount-effect B S big most two T im ok s
call-effect B S im T (write id bytes a) big most two ok (writes named typed few) s = write-effect B S big most two T im ok s id bytes named typed
call-effect B S im T (delete id a) big most two ok (deletes named few) s = delete-effect B S big most two T im ok s id named

-- the image after a call, whole, and what it shows
pub record Left (size count : ℕ) (image : List ℕ) (call : Call) (a : ℕ) (state : State) (T : ℕ → Option Entry) : Type 0 where
  pub legal : legal_sizes size count (length (leaves size (due size count image call) a image)) ≡ true
  pub whole : IsImage (size / block_size) count (image_of (size / block_size) count (leaves size (due size count image call) a image))
  pub stood : Stood count state T (lookup-after call T) (answer_numbers (answer (due size count image call) a)).number (answer_numbers (answer (due size count image call) a)).turns
      (views size count (leaves size (due size count image call) a image))

module _ (size count : ℕ) (image : List ℕ) (legal : legal_sizes size count (length image) ≡ true) (whole : IsImage (size / block_size) count (image_of (size / block_size) count image)) where
  pub call-left : {T : ℕ → Option Entry} (call : Call) (a : ℕ) → Typed call → (s : Stands count T (views size count image)) → Left size count image call a s.state T
  unfolding views
  call-left {T} call a typed s =
      record {
        legal = left.legal;
        whole = subst (IsImage B count) (sym left.blocks) (apply-image inside whole);
        stood = subst (λ (i : Image). Stood count s.state T (lookup-after call T) number turns (views_of B i)) (sym left.blocks) (effect-stands B count im a effect s);
      }
    where
      B : ℕ
      B = size / block_size

      im : Image
      im = image_of B count image

      what : Due
      what = due size count image call

      number : ℕ
      number = (answer_numbers (answer what a)).number

      turns : ℕ
      turns = (answer_numbers (answer what a)).turns

      bounds : Bounds size count (length image)
      bounds = legal-bounds size count (length image) legal

      cut : HasBlocks size count image im
      cut = record { legal = legal; blocks = refl }

      effect : Effect B count im s.state T (lookup-after call T) what
      effect =
          subst (Effect B count im s.state T (lookup-after call T)) (sym (due-on size count cut call))
          (call-effect B count im T call bounds.blocks_from bounds.blocks_to bounds.sectors_from whole typed s)

      inside : Each (IsInside B count) (made what a)
      inside = effect-inside B count im a effect

      left : HasBlocks size count (leaves size what a image) (apply (made what a) im)
      left = leaves-on size count cut what a (inside-lie inside)
