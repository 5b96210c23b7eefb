-- The stores of every call lie within the image, whatever bytes of legal sizes it holds, reachable or not.
use mathlib.Core.Path.{◌≡◌, refl, sym, ap, subst, ◌∙◌}
use mathlib.Core.Bool.{false}
use mathlib.Core.List.{List}
use mathlib.Core.Option.{Option, none, some, none-ne-some}
use Prim.Native.Nat.{ℕ, ◌-◌, ◌/◌, ◌<◌, ◌≤◌}
use native.Mathlib.Omega.{arith}
use lib.Dec.{eqb, ltb}
use lib.ListN.{length}
use Rattle.rules.specs.Notation.{is_empty, Each}
use Rattle.rules.specs.Ground.{Image, block_size, legal_sizes, image_of, reserved_id, kept_from_values}
use Rattle.rules.specs.Look.{need_of}
use Rattle.rules.specs.Reading.{Entry, View}
use Rattle.rules.specs.Meaning.{State, at_rest, not_reopened, mid_turn, views_of, Is, state_of, history, lookup}
use Rattle.rules.specs.Stores.{mount, value_entry}
use Rattle.rules.specs.Calls as rule
use Rattle.rules.specs.Calls.{Refusal, Due, refuse, make, in_state, in_rest, mount_turns, mount_on, write_on, delete_on, made, format_due}
use Rattle.rules.specs.Demands as demand
use Rattle.rules.specs.Demands.{Call, Typed, AreBytes, due}
use Rattle.rules.proofs.Terms.{IsImage, IsInside}
use Rattle.rules.proofs.Basics.Notation.{if-either, by-test}
use Rattle.rules.proofs.Basics.Parts.{each_take}
use Rattle.rules.proofs.Format.Ground.{Bounds, legal-bounds}
use Rattle.rules.proofs.Ring.Order.{next-lt}
use Rattle.rules.proofs.Ring.States.{state-is}
use Rattle.rules.proofs.Blocks.OnBytes.{HasBlocks, due_on, due-on, call-off, call-on, image-of-bytes}
use Rattle.rules.proofs.Blocks.OnImage.{views-length}
use Rattle.rules.proofs.Blocks.Reopen.{reopen-atomic}
use Rattle.rules.proofs.Blocks.Formatted.{format-inside}
use Rattle.rules.proofs.Crash.Standing.{settled, Stands}
use Rattle.rules.proofs.Crash.Leaving.{effect-inside, call-effect}

-- the stores of a call, with this allowance, lie within the image
abbrev Within : (B S a : ℕ) → Due → Type 0
Within B S a what = Each (IsInside B S) (made what a)

refusal-within : (B S a : ℕ) (r : Refusal) → Within B S a (refuse r)
unfolding made
refusal-within B S a r = Each.empty

module _ (B S : ℕ) (im : Image) (big : 8 ≤ B) (most : B ≤ 4096) (two : 2 ≤ S) (ok : IsImage B S im) (a : ℕ) where
  abbrev views : List View
  views = views_of B im

  sized : length views ≡ S
  sized = views-length B im ∙ ok.sized

  -- an image at rest or mid-turn stands, and tells what it tells
  abbrev told : State → ℕ → Option Entry
  told state id = lookup id (history state views)

  stands : (state : State) → state_of views ≡ some state → settled state views ≡ history state views → Stands S (told state) views
  stands state is same = record { sized = sized; state = state; is = state-is views state is; matches = λ id. refl; matches_later = λ id. ap (lookup id) same }

  standing : (state : State) → state_of views ≡ some state → settled state views ≡ history state views → (call : Call) → Typed call → Within B S a (due_on B S im call)
  standing state is same call typed = effect-inside B S im a (call-effect B S im (told state) call big most two ok typed (stands state is same))

  -- where the image is not at rest, a write and a delete are refused
  module _ (off : (w : ℕ) → state_of views ≡ some (at_rest w) → ⊥) where
    rest-within : (call : ℕ → Due) → Within B S a (in_rest (state_of views) refuse call)
    unfolding in_rest
    rest-within call = go (state_of views) off
      where
        go : (found : Option State) → ((w : ℕ) → found ≡ some (at_rest w) → ⊥) → Within B S a (in_rest found refuse call)
        go none not = refusal-within B S a _
        go (some (at_rest w)) not = absurd (not w refl)
        go (some (not_reopened w)) not = refusal-within B S a _
        go (some (mid_turn u)) not = refusal-within B S a _

    write-within : (id : ℕ) (bytes : List ℕ) → Within B S a (write_on B S im id bytes)
    unfolding write_on
    write-within id bytes =
        if-either (Within B S a) (eqb id reserved_id) (λ _. refusal-within B S a _)
        (λ _. if-either (Within B S a) (is_empty bytes) (λ _. refusal-within B S a _)
        (λ _. if-either (Within B S a) (ltb (B - kept_from_values) (need_of (value_entry id bytes).head)) (λ _. refusal-within B S a _) (λ _. rest-within _)))

    delete-within : (id : ℕ) → Within B S a (delete_on B S im id)
    unfolding delete_on
    delete-within id = if-either (Within B S a) (eqb id reserved_id) (λ _. refusal-within B S a _) (λ _. rest-within _)

    refused-within : (call : Call) → Within B S a (mount_on B S im) → Within B S a (due_on B S im call)
    unfolding due_on
    refused-within (demand.mount n) mounts = mounts
    refused-within (demand.write id bytes n) mounts = write-within id bytes
    refused-within (demand.delete id n) mounts = delete-within id

  mount-is : (found : Option State) → state_of views ≡ found → Within B S a (in_state found refuse (λ state. make (mount B S state im) (mount_turns state))) → Within B S a (mount_on B S im)
  unfolding mount_on
  mount-is found is within = subst (λ (o : Option State). Within B S a (in_state o refuse (λ state. make (mount B S state im) (mount_turns state)))) (sym is) within

  by_state : (found : Option State) → state_of views ≡ found → (call : Call) → Typed call → Within B S a (due_on B S im call)
  unfolding Is settled in_state mount made
  by_state none is call typed = refused-within (λ w e. none-ne-some _ (sym is ∙ e)) call (mount-is none is (refusal-within B S a rule.no_store))
  by_state (some (at_rest w)) is call typed = standing (at_rest w) is refl call typed
  by_state (some (mid_turn u)) is call typed = standing (mid_turn u) is refl call typed
  by_state (some (not_reopened w)) is call typed =
      refused-within (λ v e. not-rest (sym is ∙ e)) call
      (mount-is (some (not_reopened w)) is (each_take a (reopen-atomic big ok (next-lt S w (subst (λ (n : ℕ). w < n) sized (state-is views (not_reopened w) is).here))).inside))
    where
      not-rest : {v : ℕ} → some (not_reopened w) ≡ some (at_rest v) → ⊥
      not-rest e = let z : ◌≡◌ {A = ℕ} 0 1 = cc in omega arith

  pub within : (call : Call) → Typed call → Within B S a (due_on B S im call)
  within call typed = by_state (state_of views) refl call typed

-- ---- the same on bytes: other sizes are refused

module _ (size count : ℕ) (image : List ℕ) where
  pub format-within : (a : ℕ) → Each (IsInside (size / block_size) count) (made (format_due size count image) a)
  unfolding format_due rule.format_on made
  format-within a =
      by-test (legal_sizes size count (length image))
      (λ legal.
      let bounds : Bounds size count (length image) = legal-bounds size count (length image) legal in
      subst (Within (size / block_size) count a) (sym (call-on size count (record { legal = legal; blocks = refl }) refuse (λ B S im. rule.format_on B S im)))
      (each_take a (format-inside (size / block_size) count (omega (arith, bounds.blocks_from)) (omega (arith, bounds.sectors_from)))))
      (λ off. subst (Within (size / block_size) count a) (sym (call-off size count image off refuse (λ B S im. rule.format_on B S im))) (refusal-within (size / block_size) count a rule.geometry))

  pub call-within : (call : Call) (a : ℕ) → AreBytes image → Typed call → Each (IsInside (size / block_size) count) (made (due size count image call) a)
  unfolding AreBytes due rule.mount_due rule.write_due rule.delete_due
  call-within call a bytes typed =
      by-test (legal_sizes size count (length image))
      (λ legal.
      let bounds : Bounds size count (length image) = legal-bounds size count (length image) legal in
      let cut : HasBlocks size count image (image_of (size / block_size) count image) = record { legal = legal; blocks = refl } in
      subst (Within (size / block_size) count a) (sym (due-on size count cut call))
      (within (size / block_size) count _ bounds.blocks_from bounds.blocks_to bounds.sectors_from (image-of-bytes (size / block_size) count image bytes bounds.exact) a call typed))
      (λ off. subst (Within (size / block_size) count a) (sym (off-is off call)) (refusal-within (size / block_size) count a rule.geometry))
    where
      off-is : legal_sizes size count (length image) ≡ false → (c : Call) → due size count image c ≡ refuse rule.geometry
      off-is off (demand.mount n) = call-off size count image off refuse (λ B S im. mount_on B S im)
      off-is off (demand.write id bytes n) = call-off size count image off refuse (λ B S im. write_on B S im id bytes)
      off-is off (demand.delete id n) = call-off size count image off refuse (λ B S im. delete_on B S im id)
