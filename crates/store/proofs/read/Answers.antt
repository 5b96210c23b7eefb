-- `read`: each check is one of the rule's, in its order.
-- Assumes nothing.
use mathlib.Core.Path.{refl, sym, ap, ◌∙◌}
use lib.ListN.{length}
use Rattle.std.specs.Prelude.{Err}
use Rattle.rules.specs.Calls as rule
use Rattle.rules.specs.Calls.{buffer_after, reply_numbers}
use Rattle.image.proofs.Laws.{rest-inside}
use Rattle.answer.specs.Answer.{reply_numbers_of}
use Rattle.answer.proofs.Leaving.{exit_as, exit-none}
use Rattle.answer.proofs.Told.{numbers_as}
use Rattle.store.proofs.Sizes.{legal, illegal, user-other, user-reserved, rest, unready}
use Rattle.store.proofs.Reading.{read-refused, read-illegal, read-reserved, read-rest, read-unready}
use Rattle.store.proofs.read.Goals as goal

pub returns-in_err-g : goal.returns-in_err-g
returns-in_err-g c =
    let (answers, buffer) =
    read-refused c.args.buffer.now
    (exit-none _ c.in_err-g.ensures.ok_part c.in_err-g.ensures.value c.from_residual.ensures.1)
    (read-illegal c.args.sector_size c.args.count c.args.image.now c.args.id (length c.args.buffer.now) (illegal _ _ _ c.new.ensures c.in_err-g.ensures.ok_part)) in
    record { answer = answers; buffer = buffer; image = refl }

pub returns-in_err-wanted : goal.returns-in_err-wanted
returns-in_err-wanted c =
    let reserved = user-reserved c.user_id.result c.user_id.ensures c.in_err-wanted.was in
    let (answers, buffer) =
    read-refused c.args.buffer.now
    (exit_as _ c.from_residual-in_err-wanted.ensures.1 ∙ ap Err reserved.1)
    (read-reserved c.args.sector_size c.args.count c.args.image.now c.args.id (length c.args.buffer.now) c.in_ok-g.g (legal _ _ _ c.new.ensures c.in_ok-g.ensures.ok_part) reserved.0) in
    record { answer = answers; buffer = buffer; image = refl }

pub returns-in_err-w : goal.returns-in_err-w
returns-in_err-w c =
    let (answers, buffer) =
    read-refused c.args.buffer.now
    (exit_as _ c.from_residual-in_err-w.ensures.1)
    (read-unready c.args.sector_size c.args.count c.args.image.now c.args.id (length c.args.buffer.now) c.in_ok-g.g (legal _ _ _ c.new.ensures c.in_ok-g.ensures.ok_part) (user-other c.in_ok-wanted.wanted c.in_ok-wanted.ensures)
    (unready c.in_ok-g.g _ c.survey.ensures c.open_sector.ensures c.in_err-w.was)) in
    record { answer = answers; buffer = buffer; image = refl }

pub read-requires : goal.read-requires
read-requires c =
    record { w_bound = rest-inside c.in_ok-g.g _ _ (rest c.in_ok-g.g _ c.survey.ensures c.open_sector.ensures c.in_ok-w.was) }

pub returns : goal.returns
returns c =
    let due =
    read-rest _ _ _ _ (length c.args.buffer.now) c.in_ok-g.g (legal _ _ _ c.new.ensures c.in_ok-g.ensures.ok_part) (user-other c.in_ok-wanted.wanted c.in_ok-wanted.ensures)
    (rest c.in_ok-g.g _ c.survey.ensures c.open_sector.ensures c.in_ok-w.was) in
    let r = rw c.in_ok-wanted.ensures at c.read.ensures in
    record { answer = ap reply_numbers_of r.answer ∙ numbers_as _ ∙ ap reply_numbers (sym due); buffer = r.buffer ∙ ap (λ (x : rule.Reply). buffer_after x c.args.buffer.now) (sym due); image = refl }
