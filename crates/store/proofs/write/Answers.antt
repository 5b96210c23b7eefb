-- `write`: each check is one of the rule's, in its order.
-- Assumes nothing.
use mathlib.Core.Path.{◌≡◌, refl, sym, ap, subst, ◌∙◌}
use Prim.Native.Nat.{◌-◌, ◌^◌, ◌≤◌}
use native.Mathlib.Omega.{arith}
use lib.ListN.{length}
use Rattle.std.specs.Prelude.{Err}
use Rattle.rules.specs.Ground.{kept_from_values}
use Rattle.rules.specs.Look as look
use Rattle.rules.specs.Look.{data_blocks, need_of, is_done}
use Rattle.rules.specs.Calls as rule
use Rattle.layout.specs.Geometry.{blocks_of}
use Rattle.layout.proofs.Laws.{from-sizes}
use Rattle.entry.specs.declared.Head.{Head}
use Rattle.entry.specs.declared.Head.TheVariants.{Value}
use Rattle.entry.specs.Answer.{head_of, limit_of}
use Rattle.answer.specs.declared.Refusal.TheVariants as refusal
use Rattle.answer.proofs.Leaving.{exit_as, exit-none, leaves-exit, leaves-refused, leaves-given}
use Rattle.change.specs.Ready.{Changes}
use Rattle.at_rest.proofs.Changing.{writing, write-reserved, write-empty, write-too-long, write-rest}
use Rattle.store.proofs.Sizes.{legal, leaves-illegal, user-other, rest, unready}
use Rattle.store.proofs.Changing.{longest, write-legal, write-unready}
use Rattle.store.proofs.write.Goals as goal
use Rattle.store.proofs.write.Goals.{In_ok-g, In_ok-entry, After-need, Else-value_limit-need}

-- what is due, by the geometry
due : (c : In_ok-g) → rule.write_due c.args.sector_size c.args.count c.args.image.now c.args.id c.args.value.now ≡ writing c.in_ok-g.g c.args.image.now c.args.id c.args.value.now
due c = write-legal _ _ _ _ _ c.in_ok-g.g (legal _ _ _ c.new.ensures c.in_ok-g.ensures.ok_part)

-- the entry is that of the value, and so is its need
entry-is : (c : In_ok-entry) → (c.in_ok-entry.entry.head ≡ Value c.args.id (length c.args.value.now)) × (c.in_ok-entry.entry.value.now ≡ c.args.value.now)
entry-is c = rw (c.in_ok-entry.ensures.ok_part, c.in_ok-id.ensures) at c.value.ensures

need-is : (c : After-need) → c.need.result ≡ need_of (look.value c.args.id (length c.args.value.now))
need-is c = c.need.ensures ∙ ap (λ (h : Head). need_of (head_of h)) (entry-is (goal.at.After-need c).In_ok-entry).0

-- it fits an empty sector
fits : (c : Else-value_limit-need) → need_of (look.value c.args.id (length c.args.value.now)) ≤ blocks_of c.in_ok-g.g - kept_from_values
fits c = omega (arith, c.if-value_limit-need.false, c.value_limit.ensures, need-is (goal.at.Else-value_limit-need c).After-need)

pub returns-in_err-g-clause-outcome : goal.returns-in_err-g-clause-outcome
unfolding rule.write_due
returns-in_err-g-clause-outcome c =
    leaves-illegal _ _ _ _ (λ B S im. rule.write_on B S im c.args.id c.args.value.now) _ c.new.ensures c.in_err-g.ensures.ok_part c.in_err-g.ensures.value c.from_residual.ensures.1

pub returns-in_err-id-clause-outcome : goal.returns-in_err-id-clause-outcome
returns-in_err-id-clause-outcome c =
    let reserved = c.in_err-id.ensures in
    leaves-exit _ _ _ (exit_as _ c.from_residual-in_err-id.ensures.1 ∙ ap Err reserved.1)
    (due (goal.at.returns-in_err-id-clause-outcome c).In_ok-g ∙ write-reserved c.in_ok-g.g _ _ c.args.value.now reserved.0)

pub returns-then-is_empty-clause-outcome : goal.returns-then-is_empty-clause-outcome
returns-then-is_empty-clause-outcome c =
    leaves-refused _ _ _ refusal.Empty
    (due (goal.at.returns-then-is_empty-clause-outcome c).In_ok-g
    ∙ write-empty c.in_ok-g.g _ _ c.args.value.now (user-other c.in_ok-id.id c.in_ok-id.ensures) (grind arith))

pub returns-in_err-entry-clause-outcome : goal.returns-in_err-entry-clause-outcome
returns-in_err-entry-clause-outcome c =
    let none = c.in_err-entry.ensures.ok_part in
    let long : 2 ^ 16 ≤ length c.args.value.now = rw none at c.value.ensures in
    leaves-exit _ _ _ (exit-none _ none c.in_err-entry.ensures.value c.from_residual-in_err-entry.ensures.1)
    (due (goal.at.returns-in_err-entry-clause-outcome c).In_ok-g
    ∙ write-too-long c.in_ok-g.g _ _ c.args.value.now (user-other c.in_ok-id.id c.in_ok-id.ensures) (omega arith)
    (longest c.in_ok-g.g c.args.id (length c.args.value.now) long))

pub returns-then-value_limit-need-clause-outcome : goal.returns-then-value_limit-need-clause-outcome
returns-then-value_limit-need-clause-outcome c =
    let t = goal.at.returns-then-value_limit-need-clause-outcome c in
    leaves-refused _ _ _ refusal.TooLong
    (due t.In_ok-g
    ∙ write-too-long c.in_ok-g.g _ _ c.args.value.now (user-other c.in_ok-id.id c.in_ok-id.ensures) (grind arith)
    (omega (arith, c.if-value_limit-need.true, c.value_limit.ensures, need-is t.After-need)))

pub returns-in_err-w-clause-outcome : goal.returns-in_err-w-clause-outcome
returns-in_err-w-clause-outcome c =
    let t = goal.at.returns-in_err-w-clause-outcome c in
    leaves-exit _ _ _ (exit_as _ c.from_residual-in_err-w.ensures.1)
    (due t.In_ok-g
    ∙ write-unready c.in_ok-g.g _ _ c.args.value.now (user-other c.in_ok-id.id c.in_ok-id.ensures) (grind arith) (fits t.Else-value_limit-need)
    (unready c.in_ok-g.g _ c.survey.ensures c.open_sector.ensures c.in_err-w.was))

pub make-requires-clause-changes : goal.make-requires-clause-changes
unfolding is_done limit_of
make-requires-clause-changes c =
    let t = goal.at.make-requires-clause-changes c in
    subst (λ (h : Head). Changes (blocks_of c.in_ok-g.g) h) (sym (entry-is t.In_ok-entry).0) (record { plain = refl; fits = fits t.Else-value_limit-need })

pub returns-clause-outcome : goal.returns-clause-outcome
unfolding limit_of
returns-clause-outcome c =
    let t = goal.at.returns-clause-outcome c in
    let e = entry-is t.In_ok-entry in
    leaves-given c.in_ok-g.g c.args.sector_size (from-sizes _ _ _ c.in_ok-g.g (legal _ _ _ c.new.ensures c.in_ok-g.ensures.ok_part)).blocks
    (due t.In_ok-g
    ∙ write-rest c.in_ok-g.g _ _ c.args.value.now (user-other c.in_ok-id.id c.in_ok-id.ensures) (grind arith) (fits t.Else-value_limit-need)
    (rest c.in_ok-g.g _ c.survey.ensures c.open_sector.ensures c.in_ok-w.was))
    (rw (e.0, e.1) at c.make.ensures)
