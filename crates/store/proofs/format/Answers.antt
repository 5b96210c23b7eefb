-- `format`: the sizes, and then the one step.
-- Assumes nothing.
use mathlib.Core.Path.{ap, ◌∙◌}
use native.Mathlib.Omega.{arith}
use Rattle.rules.specs.Calls as rule
use Rattle.layout.specs.Geometry.{blocks_of, sectors_of}
use Rattle.layout.proofs.Laws.{from-sizes}
use Rattle.store.proofs.Sizes.{at-legal, legal, leaves-illegal}
use Rattle.answer.proofs.Leaving.{left-within, leaves-made, leaves-same}
use Rattle.std.proofs.lemmas.Grind.{common_steps}
use Rattle.store.proofs.format.Goals as goal

pub returns-in_err-g : goal.returns-in_err-g
unfolding rule.format_due
returns-in_err-g c =
    leaves-illegal _ _ _ _ rule.format_on _ c.new.ensures c.in_err-g.ensures.ok_part c.in_err-g.ensures.value c.from_residual.ensures.1

pub ended-requires : goal.ended-requires
ended-requires c = left-within c.new-writer.ensures.budget c.format-made.ensures

pub returns : goal.returns
unfolding rule.format_due rule.format_on
returns c =
    let w = c.new-writer.ensures in
    let sizes = legal _ _ _ c.new.ensures c.in_ok-g.ensures.ok_part in
    let due = at-legal c.args.sector_size c.args.count c.args.image.now rule.refuse rule.format_on c.in_ok-g.g sizes in
    let did = simp (ap blocks_of w.geometry, ap sectors_of w.geometry) at c.format-made.ensures in
    let size = ap blocks_of w.geometry ∙ (from-sizes _ _ _ c.in_ok-g.g sizes).blocks in
    let left = leaves-made w.budget did c.args.sector_size 0 size due in
    let same = c.format-made.ensures.same ∙ w.same in
    rw c.ended.ensures (leaves-same (rw w.image at left) (grind (arith, common_steps, same)))
