-- The paper's numbers tell an answer from every other, and every answer of the rules has its own.
use Rattle.std.specs.Prelude.{if◌then◌else◌, Option, None, Ok, Err}
use mathlib.Core.Path.{◌≡◌, refl, sym, ap, ap₂, ◌∙◌}
use Prim.Native.Nat.{ℕ, ◌≤◌}
use native.Mathlib.Omega.{arith}
use lib.Dec.{eqb, leb}
use lib.ListN.{length}
use borrow.Author.Tests.{ne_eqb}
use Rattle.rules.specs.Calls as rule
use Rattle.rules.specs.Calls.{Due, refuse, make, Numbers, refusal_number, length_told, answer_numbers, reply_numbers}
use Rattle.rules.specs.Demands.{gives}
use Rattle.rules.proofs.Basics.Notation.{by-test}
use Rattle.rules.proofs.Crash.Leaving.{refusal-number}
use Rattle.budget.specs.declared.Store.{Store}
use Rattle.budget.specs.Budget.{last_of}
use Rattle.answer.specs.declared.Refusal.{Refusal}
use Rattle.answer.specs.declared.Refusal.TheVariants as refusal
use Rattle.answer.specs.declared.Answer.{Answer}
use Rattle.answer.specs.declared.Answer.TheVariants as answer
use Rattle.answer.specs.Answer.{refusal_of, refusal_as, reply_as, reply_numbers_of, made_numbers_of, answer_numbers_of, last_in}
use Rattle.answer.proofs.Told.{numbers_as}
use Rattle.acceptance.specs.Runs.{Made, Reply}

pub refusal-most : (r : rule.Refusal) → refusal_number r ≤ 10
unfolding refusal_number
refusal-most rule.geometry = omega arith
refusal-most rule.no_store = omega arith
refusal-most rule.unfinished = omega arith
refusal-most rule.reserved = omega arith
refusal-most rule.empty = omega arith
refusal-most rule.too_long = omega arith
refusal-most rule.no_room = omega arith
refusal-most rule.absent = omega arith
refusal-most rule.bad_data = omega arith
refusal-most (rule.short_buffer len) = omega arith

-- ---- the answers of some numbers

unfoldable refusal_by : (number len : ℕ) → Refusal
refusal_by n len =
    if eqb n 1 then refusal.Geometry
    else if eqb n 2 then refusal.NoStore
    else if eqb n 3 then refusal.Unfinished
    else if eqb n 4 then refusal.Reserved
    else if eqb n 5 then refusal.Empty
    else if eqb n 6 then refusal.TooLong
    else if eqb n 7 then refusal.NoRoom
    else if eqb n 8 then refusal.Absent
    else if eqb n 9 then refusal.BadData
    else refusal.ShortBuffer len

unfoldable made_by : Option Store → Numbers → Made
made_by last n =
    if eqb n.number 0 then Ok (record { answer = answer.Done n.stores n.turns; last = last })
    else if eqb n.number 11 then Ok (record { answer = answer.Cut n.stores; last = last })
    else Err (refusal_by n.number n.length)

unfoldable reply_by : Numbers → Reply
reply_by n = if eqb n.number 0 then Ok n.length else Err (refusal_by n.number n.length)

refusal-by : (r : Refusal) → refusal_by (refusal_number (refusal_of r)) (length_told (refusal_of r)) ≡ r
unfolding refusal_by refusal_number length_told
refusal-by refusal.Geometry = refl
refusal-by refusal.NoStore = refl
refusal-by refusal.Unfinished = refl
refusal-by refusal.Reserved = refl
refusal-by refusal.Empty = refl
refusal-by refusal.TooLong = refl
refusal-by refusal.NoRoom = refl
refusal-by refusal.Absent = refl
refusal-by refusal.BadData = refl
refusal-by (refusal.ShortBuffer len) = refl

stored-by : (x : Answer) (last : Option Store) → made_by last (made_numbers_of x) ≡ Ok (record { answer = x; last = last })
unfolding made_by
stored-by (answer.Done stores turns) last = refl
stored-by (answer.Cut stores) last = refl

made-by : (x : Made) → made_by (last_in x) (answer_numbers_of x) ≡ x
unfolding made_by answer_numbers
made-by (Ok outcome) = stored-by outcome.answer outcome.last
made-by (Err r) =
    let n : ℕ = refusal_number (refusal_of r) in
    simp (ne_eqb n 0 (λ e. omega (arith, refusal-number (refusal_of r))), ne_eqb n 11 (λ e. omega (arith, refusal-most (refusal_of r))), refusal-by r)

reply-by : (x : Reply) → reply_by (reply_numbers_of x) ≡ x
unfolding reply_by reply_numbers
reply-by (Ok len) = refl
reply-by (Err r) =
    let n : ℕ = refusal_number (refusal_of r) in
    simp (ne_eqb n 0 (λ e. omega (arith, refusal-number (refusal_of r))), refusal-by r)

-- so equal numbers, and the same last store, are equal answers
pub same-made : (x y : Made) → answer_numbers_of x ≡ answer_numbers_of y → last_in x ≡ last_in y → x ≡ y
same-made x y e last = sym (made-by x) ∙ ap₂ made_by last e ∙ made-by y

pub same-reply : (x y : Reply) → reply_numbers_of x ≡ reply_numbers_of y → x ≡ y
same-reply x y e = sym (reply-by x) ∙ ap reply_by e ∙ reply-by y

-- a 7 is no room, and tells nothing else
pub no_room_lem : (x : Made) → (answer_numbers_of x).number ≡ 7 → answer_numbers_of x ≡ gives 7 0 0 0
unfolding made_by refusal_by answer_numbers refusal_number length_told gives
no_room_lem x e =
    let is : made_by (last_in x) (answer_numbers_of x) ≡ Err refusal.NoRoom = rw e in
    ap answer_numbers_of (sym (made-by x) ∙ is)

-- ---- every answer of the rules is one of the crate's

pub some-made : (what : Due) (a : ℕ)
    → (y : Made) × (answer_numbers_of y ≡ answer_numbers (rule.answer what a)) × (last_in y ≡ last_of None (rule.made what a))
unfolding answer_numbers reply_numbers rule.answer rule.made last_of
some-made (refuse r) a = (Err (refusal_as r), numbers_as (rule.Reply.refused r), refl)
some-made (make stores turns) a =
    let last : Option Store = last_of None (rule.made (make stores turns) a) in
    by-test (leb (length stores) a)
    (λ enough. (Ok (record { answer = answer.Done (length stores) turns; last = last }), rw enough refl, refl))
    (λ short. (Ok (record { answer = answer.Cut a; last = last }), rw short refl, refl))

pub some-reply : (x : rule.Reply) → (y : Reply) × (reply_numbers_of y ≡ reply_numbers x)
some-reply x = (reply_as x, numbers_as x)
