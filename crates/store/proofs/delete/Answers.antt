-- `delete`: each check is one of the rule's, in its order.
-- Assumes nothing.
use mathlib.Core.Path.{ap, ◌∙◌}
use Rattle.std.specs.Prelude.{Err}
use Rattle.rules.specs.Calls as rule
use Rattle.layout.proofs.Laws.{from-sizes}
use Rattle.answer.proofs.Leaving.{exit_as, leaves-exit, leaves-given}
use Rattle.at_rest.proofs.Changing.{delete-reserved}
use Rattle.store.proofs.Sizes.{legal, leaves-illegal, user-other, unready}
use Rattle.store.proofs.Changing.{delete-legal, delete-unready}
use Rattle.store.proofs.delete.Goals as goal

pub returns-in_err-g : goal.returns-in_err-g
unfolding rule.delete_due
returns-in_err-g c =
    leaves-illegal _ _ _ _ (λ B S im. rule.delete_on B S im c.args.id) _ c.new.ensures c.in_err-g.ensures.ok_part c.in_err-g.ensures.value c.from_residual.ensures.1

pub returns-in_err-id : goal.returns-in_err-id
returns-in_err-id c =
    let reserved = c.in_err-id.ensures in
    leaves-exit _ _ _ (exit_as _ c.from_residual-in_err-id.ensures.1 ∙ ap Err reserved.1)
    (delete-legal _ _ _ _ c.in_ok-g.g (legal _ _ _ c.new.ensures c.in_ok-g.ensures.ok_part)
    ∙ delete-reserved c.in_ok-g.g _ _ reserved.0)

pub returns-in_err-w : goal.returns-in_err-w
returns-in_err-w c =
    leaves-exit _ _ _ (exit_as _ c.from_residual-in_err-w.ensures.1)
    (delete-legal _ _ _ _ c.in_ok-g.g (legal _ _ _ c.new.ensures c.in_ok-g.ensures.ok_part)
    ∙ delete-unready c.in_ok-g.g _ _ (user-other c.in_ok-id.id c.in_ok-id.ensures)
    (unready c.in_ok-g.g _ c.survey.ensures c.open_sector.ensures c.in_err-w.was))

pub returns : goal.returns
returns c =
    let sizes = legal _ _ _ c.new.ensures c.in_ok-g.ensures.ok_part in
    leaves-given c.in_ok-g.g c.args.sector_size (from-sizes _ _ _ c.in_ok-g.g sizes).blocks
    (delete-legal _ _ _ _ c.in_ok-g.g sizes) (rw c.in_ok-id.ensures at c.delete.ensures)
