-- A call that stores tells no length: only a short buffer has one, and none of these calls refuses for that.
-- Assumes nothing.
use mathlib.Core.Path.{◌≡◌, refl}
use mathlib.Core.List.{List}
use mathlib.Core.Option.{Option, none, some}
use Prim.Native.Nat.{ℕ, ◌-◌, ◌/◌}
use lib.Dec.{eqb, leb, ltb}
use lib.ListN.{length}
use Rattle.rules.specs.Notation.{is_empty}
use Rattle.rules.specs.Ground.{Image, block_size, kept_from_values, kept_from_deletions, reserved_id, legal_sizes, image_of}
use Rattle.rules.specs.Look.{need_of}
use Rattle.rules.specs.Reading.{Entry}
use Rattle.rules.specs.Meaning.{State, at_rest, not_reopened, mid_turn, views_of, state_of, history, lookup}
use Rattle.rules.specs.Stores.{Store, least_turns, change, value_entry, deletion_entry}
use Rattle.rules.specs.Calls.{Refusal, geometry, no_store, unfinished, reserved, empty, too_long, no_room, absent, length_told, Due, refuse, make, answer, answer_numbers, in_state, in_rest, at_sizes, format_on, mount_on, change_on, write_on, delete_on, format_due, mount_due, write_due, delete_due}
use Rattle.rules.proofs.Basics.Notation.{by-test}

-- what is due tells no length, whatever the allowance
abbrev pub NoLength : Due → Type 0
NoLength due = (allowance : ℕ) → (answer_numbers (answer due allowance)).length ≡ 0

refused : (r : Refusal) → length_told r ≡ 0 → NoLength (refuse r)
unfolding answer answer_numbers
refused r none_told allowance = none_told

made : (stores : List Store) (turns : ℕ) → NoLength (make stores turns)
unfolding answer answer_numbers
made stores turns allowance = by-test (leb (length stores) allowance) (λ enough. rw enough refl) (λ short. rw short refl)

in-state : (state : Option State) (call : State → Due) → ((s : State) → NoLength (call s)) → NoLength (in_state state refuse call)
unfolding in_state length_told
in-state none call told = refused no_store refl
in-state (some s) call told = told s

in_rest_lem : (state : Option State) (call : ℕ → Due) → ((w : ℕ) → NoLength (call w)) → NoLength (in_rest state refuse call)
unfolding in_rest length_told
in_rest_lem none call told = refused no_store refl
in_rest_lem (some (at_rest w)) call told = told w
in_rest_lem (some (not_reopened w)) call told = refused unfinished refl
in_rest_lem (some (mid_turn u)) call told = refused unfinished refl

at-sizes : (size count : ℕ) (bytes : List ℕ) (call : (B S : ℕ) → Image → Due) → ((B S : ℕ) (im : Image) → NoLength (call B S im))
    → NoLength (at_sizes size count bytes refuse call)
unfolding at_sizes length_told
at-sizes size count bytes call told =
    by-test (legal_sizes size count (length bytes))
    (λ legal. rw legal (told (size / block_size) count (image_of (size / block_size) count bytes)))
    (λ illegal. rw illegal (refused geometry refl))

change-on : (B S w limit : ℕ) (e : Entry) (im : Image) → NoLength (change_on B S w limit e im)
unfolding change_on length_told
change-on B S w limit e im = by-turns (least_turns (need_of e.head) limit w (views_of B im))
  where
    by-turns : (turns : Option ℕ) → NoLength (elim turns [ none ↦ refuse no_room | some t ↦ make (change B S t w e im) t ])
    by-turns none = refused no_room refl
    by-turns (some t) = made _ t

pub format-tells : (size count : ℕ) (bytes : List ℕ) → NoLength (format_due size count bytes)
unfolding format_due format_on
format-tells size count bytes = at-sizes size count bytes _ (λ B S im. made _ 0)

pub mount-tells : (size count : ℕ) (bytes : List ℕ) → NoLength (mount_due size count bytes)
unfolding mount_due mount_on
mount-tells size count bytes = at-sizes size count bytes _ (λ B S im. in-state (state_of (views_of B im)) _ (λ s. made _ _))

pub write-tells : (size count : ℕ) (bytes : List ℕ) (id : ℕ) (value : List ℕ) → NoLength (write_due size count bytes id value)
unfolding write_due write_on length_told
write-tells size count bytes id value =
    at-sizes size count bytes _
    (λ B S im.
    by-test (eqb id reserved_id) (λ e. rw e (refused reserved refl))
    (λ user.
    by-test (is_empty value) (λ e. rw (user, e) (refused empty refl))
    (λ filled.
    by-test (ltb (B - kept_from_values) (need_of (value_entry id value).head)) (λ e. rw (user, filled, e) (refused too_long refl))
    (λ fits. rw (user, filled, fits) (in_rest_lem (state_of (views_of B im)) _ (λ w. change-on B S w _ _ im))))))

pub delete-tells : (size count : ℕ) (bytes : List ℕ) (id : ℕ) → NoLength (delete_due size count bytes id)
unfolding delete_due delete_on length_told
delete-tells size count bytes id =
    at-sizes size count bytes _
    (λ B S im.
    by-test (eqb id reserved_id) (λ e. rw e (refused reserved refl))
    (λ user. rw user (in_rest_lem (state_of (views_of B im)) _ (λ w. by-lookup B S w im (lookup id (history (at_rest w) (views_of B im)))))))
  where
    by-lookup : (B S w : ℕ) (im : Image) (found : Option Entry)
        → NoLength (elim found [ none ↦ refuse absent | some e ↦ change_on B S w (B - kept_from_deletions) (deletion_entry id) im ])
    by-lookup B S w im none = refused absent refl
    by-lookup B S w im (some e) = change-on B S w _ _ im
