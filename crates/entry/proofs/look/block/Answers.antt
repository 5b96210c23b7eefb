-- `look::block`: a block that passes the first three tests is judged by its form, and with a right form by its head.
-- Assumes nothing.
use Rattle.std.specs.Prelude.{Some, None, Ok}
use Rattle.std.proofs.lemmas.Result.{err_from_is_err_and}
use mathlib.Core.Bool.{true, false}
use mathlib.Core.Path.{◌≡◌, sym, ap, ◌∙◌}
use mathlib.Core.List.{List}
use mathlib.Core.Option.{Option}
use Prim.Native.Nat.{ℕ}
use native.Mathlib.Omega.{arith}
use borrow.Author.Tests.{eq-eqb, ne_eqb}
use Rattle.rules.specs.Notation.{is_erased}
use Rattle.rules.specs.Entry.{cycle_of}
use Rattle.rules.specs.Look.{is_checked, judge, look}
use Rattle.rules.specs.Look as rule
use Rattle.rules.proofs.Format.Look.{judge-none, judge-within, judge-over}
use Rattle.entry.specs.declared.Head.{Head}
use Rattle.entry.specs.declared.NoEntry.TheVariants.{WrongForm}
use Rattle.entry.specs.Answer.{scan_of, head_of, verdict_as}
use Rattle.entry.proofs.Laws.{head-as-of, right-form, wrong-form}
use Rattle.entry.proofs.look.block.Goals as goal
use Rattle.entry.proofs.look.block.Goals.{In_ok-head}

-- a block that passed the first three tests is judged by its form
module _ (B cycle : ℕ) (scan : rule.Scan) (block : List ℕ) (filled : is_erased block ≡ false) where
  other-cycle : (cycle_of block ≡ cycle → ⊥) → look B cycle scan block ≡ rule.other_cycle
  unfolding look
  other-cycle other = simp (filled, ne_eqb _ _ other)

  module _ (same : cycle_of block ≡ cycle) where
    unchecked : is_checked block ≡ false → look B cycle scan block ≡ rule.wrong_check
    unfolding look
    unchecked wrong = simp (filled, eq-eqb _ _ same, wrong)

    judged : is_checked block ≡ true → {form : Option rule.Head} → rule.head_of scan.data_end block ≡ form
        → look B cycle scan block ≡ judge B scan form
    unfolding look
    judged right e = simp (filled, eq-eqb _ _ same, right, e)

pub returns-then-is_erased : goal.returns-then-is_erased
unfolding look
returns-then-is_erased c = let bytes : is_erased c.args.block.now ≡ true = sym c.is_erased.ensures ∙ c.if-is_erased.true in
    simp bytes

pub returns-then-cycle_in-cycle : goal.returns-then-cycle_in-cycle
returns-then-cycle_in-cycle c =
    sym (ap (verdict_as _) (other-cycle _ _ _ _ (sym c.if-is_erased.ensures) (λ e. c.if-cycle_in-cycle.true (c.cycle_in.ensures ∙ e))))

pub returns-then-not-is_checked : goal.returns-then-not-is_checked
returns-then-not-is_checked c =
    let same = sym c.cycle_in.ensures ∙ c.if-cycle_in-cycle.false in
    sym (ap (verdict_as _) (unchecked _ _ _ _ (sym c.if-is_erased.ensures) same (sym c.if-not-is_checked.ensures)))

pub returns-in_err-head : goal.returns-in_err-head
returns-in_err-head c =
    let same = sym c.cycle_in.ensures ∙ c.if-cycle_in-cycle.false in
    let p = err_from_is_err_and c.from_residual.result c.from_residual.ensures.1 in
    let none : c.head_of.result ≡ None = grind arith in
    let why : c.in_err-head.field-0.0 ≡ WrongForm = grind arith in
    let form = wrong-form _ (sym c.head_of.ensures ∙ none) in
    rw (p.1, p.2, why)
    (sym (ap (verdict_as _) (judged _ _ _ _ (sym c.if-is_erased.ensures) same (sym c.if-not-is_checked.ensures) form ∙ judge-none _ _)))

-- the head that was found
found : (c : In_ok-head) → c.head_of.result ≡ Some c.in_ok-head.head
found c = grind arith

pub returns-then-not-admits : goal.returns-then-not-admits
returns-then-not-admits c =
    let same = sym c.cycle_in.ensures ∙ c.if-cycle_in-cycle.false in
    let form = right-form _ (sym c.head_of.ensures ∙ found (goal.at.returns-then-not-admits c).In_ok-head) in
    let over = judge-over _ _ _ (sym c.if-not-admits.ensures) in
    sym (ap (verdict_as _) (judged _ _ _ _ (sym c.if-is_erased.ensures) same (sym c.if-not-is_checked.ensures) form ∙ over))

pub returns : goal.returns
returns c =
    let same = sym c.cycle_in.ensures ∙ c.if-cycle_in-cycle.false in
    let head : Head = c.in_ok-head.head in
    let form = right-form _ (sym c.head_of.ensures ∙ found (goal.at.returns c).In_ok-head) in
    let within = judge-within _ _ (head_of head) (sym c.if-not-admits.ensures) in
    (λ i. Ok (sym (head-as-of head) i, c.after.ensures i))
    ∙ sym (ap (verdict_as (scan_of c.args.before)) (judged _ _ _ _ (sym c.if-is_erased.ensures) same (sym c.if-not-is_checked.ensures) form ∙ within))
