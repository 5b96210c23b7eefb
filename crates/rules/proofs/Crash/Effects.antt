-- What each call does to an image that stands: it refuses, or it goes, and then tells the change.
use mathlib.Core.Path.{◌≡◌, refl, sym, subst}
use mathlib.Core.Bool.{true, false, true≢false}
use mathlib.Core.List.{List, [], ◌∷◌}
use mathlib.Core.Option.{Option, none, some}
use Prim.Native.Nat.{ℕ, ◌+◌, ◌-◌, ◌<◌, ◌≤◌, ◌^◌}
use native.Mathlib.Omega.{arith}
use lib.Dec.{eqb, leb, ltb}
use lib.ListN.{length}
use borrow.Author.Tests.{eqb-false, le-leb, ltb-false, leb-true}
use Rattle.rules.specs.Notation.{is_empty, Each}
use Rattle.rules.specs.Ground.{Image, reserved_id, kept_from_values, kept_from_deletions}
use Rattle.rules.specs.Look.{Scan, data_blocks, need_of, is_within}
use Rattle.rules.specs.Reading.{Entry}
use Rattle.rules.specs.Meaning.{State, at_rest, not_reopened, mid_turn, views_of, Is, state_of, history, is_value, lookup}
use Rattle.rules.specs.Stores.{Plan, mount, least_turns, change, value_entry, deletion_entry}
use Rattle.rules.specs.Calls.{Refusal, no_room, absent, Due, refuse, make, in_state, in_rest, mount_turns, mount_on, change_on, write_on, delete_on}
use Rattle.rules.proofs.Terms.{IsImage, IsProper}
use Rattle.rules.proofs.Crash.Cuts.{Goes}
use Rattle.rules.proofs.Ring.States.{is_state}
use Rattle.rules.proofs.Crash.Standing.{Stands}
use Rattle.rules.proofs.Crash.Turning.{within-value}
use Rattle.rules.proofs.Crash.Mounting.{Settled, SettledAt, works_after, rest-settled, mount-goes}
use Rattle.rules.proofs.Crash.Changing.{updated, change-goes}
use Rattle.rules.proofs.Blocks.Made.{value-proper, deletion-proper}
use Rattle.rules.proofs.Basics.Notation.{if-either}

-- a call on an image in a state that tells T: refused, or its stores go to one that tells T', the working sector moved by the turns
pub data Effect (B S : ℕ) (im : Image) (state : State) (T T' : ℕ → Option Entry) : Due → Type 0 where
  refuses : (r : Refusal) → Effect B S im state T T' (refuse r)
  makes : (plan : Plan) (turns : ℕ) → Goes B S plan im (Stands S T) (SettledAt S T' (works_after S turns state)) → Effect B S im state T T' (make (plan im) turns)

-- a value whose need is within the limit has a length of two bytes
pub short-value : (B len : ℕ) → B ≤ 4096 → 1 + data_blocks len ≤ B - kept_from_values → len < 2 ^ 16
unfolding data_blocks
short-value B len most h =
    if-either (λ (n : ℕ). 1 + n ≤ B - kept_from_values → len < 2 ^ 16) (leb len 8)
    (λ e _. omega (arith, leb-true len 8 e))
    (λ e k. omega arith)
    h

not-empty : (bytes : List ℕ) → is_empty bytes ≡ false → 1 ≤ length bytes
unfolding is_empty
not-empty [] e = absurd (true≢false e)
not-empty (b ∷ bs) e = omega arith

need-of : (id : ℕ) (bytes : List ℕ) {n : ℕ} → need_of (value_entry id bytes).head ≤ n → 1 + data_blocks (length bytes) ≤ n
unfolding value_entry need_of
need-of id bytes h = h

pub value-head : (id : ℕ) (bytes : List ℕ) → is_value (value_entry id bytes).head ≡ true
unfolding value_entry is_value
value-head id bytes = refl

within-deletion-entry : (B id : ℕ) (scan : Scan) → scan.needs + need_of (deletion_entry id).head ≤ B - kept_from_deletions → is_within B scan (deletion_entry id).head ≡ true
unfolding deletion_entry is_within
within-deletion-entry B id scan h = le-leb _ _ h

module _ (B S : ℕ) (big : 8 ≤ B) (most : B ≤ 4096) (two : 2 ≤ S) (T : ℕ → Option Entry) (im : Image) (ok : IsImage B S im) (s : Stands S T (views_of B im)) where
  pub mount-effect : Effect B S im s.state T T (mount_on B S im)
  unfolding mount_on in_state
  mount-effect =
      subst (λ (o : Option State). Effect B S im s.state T T (in_state o refuse (λ state. make (mount B S state im) (mount_turns state))))
      (sym (is_state (views_of B im) s.state s.is))
      (makes (mount B S s.state) (mount_turns s.state) (mount-goes B S big most two T im ok s))

  -- at rest a call goes on, in the other states it is refused
  rest-effect : {T' : ℕ → Option Entry} (call : ℕ → Due) → ((q : Settled S T (views_of B im)) → Effect B S im (at_rest q.working) T T' (call q.working))
      → Effect B S im s.state T T' (in_rest (state_of (views_of B im)) refuse call)
  unfolding in_rest Is rest-settled
  rest-effect {T'} call goes =
      subst (λ (o : Option State). Effect B S im s.state T T' (in_rest o refuse call)) (sym (is_state (views_of B im) s.state s.is)) (by_state s.state s.is s.matches)
    where
      by_state : (state : State) → Is (views_of B im) state → ((id : ℕ) → lookup id (history state (views_of B im)) ≡ T id) → Effect B S im state T T' (in_rest (some state) refuse call)
      by_state (at_rest w) is matches = goes (rest-settled S two T (views_of B im) s.sized w is matches)
      by_state (not_reopened w) is matches = refuses _
      by_state (mid_turn u) is matches = refuses _

  -- the least turns and the append, or no room
  change-effect : (e : Entry) (limit : ℕ) → ((scan : Scan) → scan.needs + need_of e.head ≤ limit → is_within B scan e.head ≡ true) → IsProper e
      → (q : Settled S T (views_of B im)) → Effect B S im (at_rest q.working) T (updated e T) (change_on B S q.working limit e im)
  unfolding change_on works_after
  change-effect e limit admits proper q = by-turns (least_turns (need_of e.head) limit q.working (views_of B im)) refl
    where
      w : ℕ
      w = q.working

      due : Option ℕ → Due
      due = elim [ none ↦ refuse no_room | some turns ↦ make (change B S turns w e im) turns ]

      by-turns : (o : Option ℕ) → least_turns (need_of e.head) limit w (views_of B im) ≡ o → Effect B S im (at_rest w) T (updated e T) (due (least_turns (need_of e.head) limit w (views_of B im)))
      by-turns none found = subst (λ (o : Option ℕ). Effect B S im (at_rest w) T (updated e T) (due o)) (sym found) (refuses no_room)
      by-turns (some t) found =
          subst (λ (o : Option ℕ). Effect B S im (at_rest w) T (updated e T) (due o)) (sym found)
          (makes (change B S t w e) t (change-goes B S big most two T e limit t im admits q.matches ok here q.rests proper found))
        where
          here : w < S
          here = subst (λ (n : ℕ). w < n) q.rests.sized q.rests.is.here

  pub write-effect : (id : ℕ) (bytes : List ℕ) → id < 2 ^ 32 → Each (λ b. b < 256) bytes → Effect B S im s.state T (updated (value_entry id bytes) T) (write_on B S im id bytes)
  unfolding write_on
  write-effect id bytes named typed =
      if-either P (eqb id reserved_id) (λ _. refuses _)
      (λ user.
      if-either P (is_empty bytes) (λ _. refuses _)
      (λ filled.
      if-either P (ltb (B - kept_from_values) (need_of (value_entry id bytes).head)) (λ _. refuses _)
      (λ short.
      let fits : 1 + data_blocks (length bytes) ≤ B - kept_from_values = need-of id bytes (ltb-false (B - kept_from_values) (need_of (value_entry id bytes).head) short) in
      rest-effect (λ w. change_on B S w (B - kept_from_values) (value_entry id bytes) im)
      (change-effect (value_entry id bytes) (B - kept_from_values) (λ scan. within-value B scan (value_entry id bytes).head (value-head id bytes))
      (value-proper id named (eqb-false id reserved_id user) typed (not-empty bytes filled) (short-value B (length bytes) most fits))))))
    where
      P : Due → Type 0
      P = Effect B S im s.state T (updated (value_entry id bytes) T)

  pub delete-effect : (id : ℕ) → id < 2 ^ 32 → Effect B S im s.state T (updated (deletion_entry id) T) (delete_on B S im id)
  unfolding delete_on
  delete-effect id named =
      if-either P (eqb id reserved_id) (λ _. refuses _)
      (λ user. rest-effect _ (λ q. by-lookup q user (lookup id (history (at_rest q.working) (views_of B im)))))
    where
      P : Due → Type 0
      P = Effect B S im s.state T (updated (deletion_entry id) T)

      by-lookup : (q : Settled S T (views_of B im)) → eqb id reserved_id ≡ false → (o : Option Entry)
          → Effect B S im (at_rest q.working) T (updated (deletion_entry id) T) (elim o [ none ↦ refuse absent | some e ↦ change_on B S q.working (B - kept_from_deletions) (deletion_entry id) im ])
      by-lookup q user none = refuses absent
      by-lookup q user (some e) =
          change-effect (deletion_entry id) (B - kept_from_deletions) (within-deletion-entry B id) (deletion-proper id named (eqb-false id reserved_id user)) q
