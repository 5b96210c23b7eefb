-- What a call that stores leaves: by the budget that its steps left, and where it was refused.
-- Assumes nothing.
use mathlib.Core.Path.{◌≡◌, refl, sym, ap, subst, ◌∙◌}
use mathlib.Core.List.{List}
use Prim.Native.Nat.{ℕ, ◌*◌, ◌-◌, ◌/◌, ◌≤◌}
use native.Mathlib.Omega.{arith}
use Rattle.std.specs.Prelude.{Option, None, Result, Ok, Err}
use Rattle.std.specs.Option.{ok_or}
use Rattle.std.specs.Result.{IsErrAnd}
use Rattle.std.proofs.lemmas.Result.{err_from_is_err_and}
use Rattle.rules.specs.Ground.{block_size}
use Rattle.rules.specs.Stores.{Store, apply_bytes}
use Rattle.rules.specs.Calls as rule
use Rattle.rules.specs.Calls.{Due, refuse, make, made}
use Rattle.rules.proofs.Crash.Pinned.{refusal-leaves}
use Rattle.layout.specs.declared.Geometry.{Geometry}
use Rattle.layout.specs.Geometry.{blocks_of}
use Rattle.budget.specs.declared.Budget.{Budget}
use Rattle.budget.specs.declared.Cut.{Cut}
use Rattle.budget.specs.declared.Writer.{Writer}
use Rattle.budget.specs.Budget.{budget_of, spent, last_of, Did}
use Rattle.budget.proofs.Laws.{did-left, did-answer-done, did-answer-cut, did-leaves}
use Rattle.answer.specs.declared.Refusal.{Refusal}
use Rattle.answer.specs.declared.Answer.{Answer}
use Rattle.answer.specs.declared.Answer.TheVariants as answer
use Rattle.answer.specs.declared.Outcome.{Outcome}
use Rattle.answer.specs.Answer.{refusal_of, made_numbers_of, Leaves, outcome_as}

module _ {w w' : Writer} {ss : List Store} {a : ℕ} {r : Result (Unit {0}) Cut} (begun : w.budget ≡ budget_of a) (did : Did w ss w' r) where
  pub left-within : w'.budget.left ≤ a
  left-within = omega (arith, ap (λ (x : Budget). x.left) begun, did-left did)

  last_made : (turns : ℕ) → w'.budget.last ≡ last_of None (made (make ss turns) a)
  unfolding spent made
  last_made turns = ap (λ (x : Budget). x.last) (did.left ∙ ap (λ (b : Budget). spent b ss) begun)

  -- an answer is told by its numbers, and the rest by what was done
  told : (size turns : ℕ) → blocks_of w.geometry ≡ size / block_size → (x : Answer)
      → made_numbers_of x ≡ rule.answer_numbers (rule.answer (make ss turns) a)
      → Leaves size (make ss turns) a w.image.now w'.image.now (Ok (record { answer = x; last = w'.budget.last }))
  told size turns same x numbers = record { numbers = numbers; image = did-leaves begun did size turns same; last = last_made turns }

pub leaves-made : {w w' : Writer} {ss : List Store} {a : ℕ} {r : Result (Unit {0}) Cut} {due : Due} → w.budget ≡ budget_of a
    → Did w ss w' r → (size turns : ℕ) → blocks_of w.geometry ≡ size / block_size → due ≡ make ss turns
    → Leaves size due a w.image.now w'.image.now (Ok (outcome_as a w'.budget r turns))
unfolding rule.answer_numbers
leaves-made {w = w} {w' = w'} {a = a} {r = Ok all} begun did size turns same e =
    subst (λ (d : Due). Leaves size d a w.image.now w'.image.now (Ok (outcome_as a w'.budget (Ok all) turns))) (sym e)
    (told begun did size turns same (answer.Done (a - w'.budget.left) turns) (ap rule.answer_numbers (sym (did-answer-done begun did turns refl))))
leaves-made {w = w} {w' = w'} {a = a} {r = Err cut} begun did size turns same e =
    subst (λ (d : Due). Leaves size d a w.image.now w'.image.now (Ok (outcome_as a w'.budget (Err cut) turns))) (sym e)
    (told begun did size turns same (answer.Cut a) (ap rule.answer_numbers (sym (did-answer-cut begun did turns refl))))

-- what is left, by another name
pub leaves-same : {size a : ℕ} {due : Due} {before after after' : List ℕ} {r : Result Outcome Refusal} → Leaves size due a before after r → after' ≡ after
    → Leaves size due a before after' r
leaves-same {size} {a} {due} {before} {r = r} left same = subst (λ (bytes : List ℕ). Leaves size due a before bytes r) (sym same) left

pub leaves-refused : {due : Due} (size a : ℕ) (bytes : List ℕ) (reason : Refusal) → due ≡ refuse (refusal_of reason)
    → Leaves size due a bytes bytes (Err reason)
unfolding rule.answer made last_of
leaves-refused size a bytes reason e =
    subst (λ (d : Due). Leaves size d a bytes bytes (Err reason)) (sym e)
    (record { numbers = refl; image = sym (refusal-leaves size (refusal_of reason) a bytes); last = refl })

-- what the exit of a `?` answers
pub exit_as : {T E : Type 0} {e : E} (r : Result T E) → IsErrAnd r (λ d. d ≡ e) → r ≡ Err e
exit_as r h = let p = err_from_is_err_and r h in rw (p.1, p.2) refl

-- and that of `o.ok_or(why)?`
pub exit-none : {S T E : Type 0} {o : Option S} {why e : E} (r : Result T E) → o ≡ None → ◌≡◌ {A = Result S E} (Err e) (ok_or o why) → IsErrAnd r (λ d. d ≡ e) → r ≡ Err why
exit-none {why = why} {e = e} r none told exit = let same : e ≡ why = cc in exit_as r exit ∙ ap Err same

-- the exit of a `?` on a refusal
pub leaves-exit : {due : Due} (size a : ℕ) (bytes : List ℕ) {reason : Refusal} {r : Result Outcome Refusal} → r ≡ Err reason → due ≡ refuse (refusal_of reason)
    → Leaves size due a bytes bytes r
leaves-exit {due} size a bytes {reason} is e = subst (Leaves size due a bytes bytes) (sym is) (leaves-refused size a bytes reason e)

-- the bytes of a sector, from its blocks
pub own-size : (g : Geometry) → blocks_of g ≡ blocks_of g * block_size / block_size
own-size g = omega arith

-- the same by the bytes that were given
pub leaves-given : {due due' : Due} (g : Geometry) (size : ℕ) {a : ℕ} {before after : List ℕ} {r : Result Outcome Refusal} → blocks_of g ≡ size / block_size → due' ≡ due
    → Leaves (blocks_of g * block_size) due a before after r → Leaves size due' a before after r
unfolding rule.leaves
leaves-given {due} g size {a} {before} {after} {r} same e left =
    subst (λ (d : Due). Leaves size d a before after r) (sym e)
    (record {
      numbers = left.numbers;
      image = left.image ∙ ap (λ (B : ℕ). apply_bytes B (made due a) before) (sym (own-size g) ∙ same);
      last = left.last;
    })
