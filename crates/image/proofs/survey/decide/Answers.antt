-- `survey::decide`: each way out is a case of the rules' definition.
-- Assumes nothing.
use mathlib.Core.Path.{sym, ◌∙◌}
use Rattle.rules.specs.Meaning.{state_by}
use Rattle.mask.proofs.Laws.{empty-true, two-or-more}
use Rattle.image.proofs.States.{not-one}
use Rattle.image.proofs.survey.decide.Goals as goal

pub returns-then-is_one : goal.returns-then-is_one
unfolding state_by
returns-then-is_one c = rw ((empty-true _).0 (sym c.is_empty.ensures ∙ c.if-is_empty.true), c.which.ensures)

pub returns-then-is_empty : goal.returns-then-is_empty
returns-then-is_empty c = rw ((empty-true _).0 (sym c.is_empty.ensures ∙ c.if-is_empty.true))
    (not-one _ _ (sym c.is_one.ensures ∙ c.if-is_one.false))

pub returns : goal.returns
unfolding state_by
returns c = let some = sym c.is_empty.ensures ∙ c.if-is_empty.false in
    let not-one = sym c.is_one-2.ensures ∙ c.if-is_one-2.false in
    rw (two-or-more _ some not-one).3
