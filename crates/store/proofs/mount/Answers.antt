-- `mount`: the sizes, the state, and then the one step.
-- Assumes nothing.
use mathlib.Core.Path.{◌≡◌, sym, ap, ◌∙◌}
use native.Mathlib.Omega.{arith}
use Rattle.std.specs.Prelude.{Ok, Err}
use Rattle.rules.specs.Meaning.{state_of}
use Rattle.rules.specs.Calls as rule
use Rattle.layout.specs.Geometry.{blocks_of, sectors_of}
use Rattle.layout.specs.Options.{option_as}
use Rattle.layout.proofs.Laws.{from-sizes}
use Rattle.image.specs.Answer.{views_in}
use Rattle.image.proofs.Laws.{survey-state}
use Rattle.answer.proofs.Leaving.{exit_as, left-within, leaves-made, leaves-same, leaves-exit}
use Rattle.store.specs.State.{begun_as}
use Rattle.store.proofs.Sizes.{legal, leaves-illegal}
use Rattle.store.proofs.Mounting.{mount-none, mount-due}
use Rattle.std.proofs.lemmas.Grind.{common_steps}
use Rattle.store.proofs.mount.Goals as goal
use Rattle.store.proofs.mount.Goals.{In_ok-turns, In_err-turns}

-- the turns are those of the state, if there is one
begins : (c : In_ok-turns) → begun_as (option_as (state_of (views_in c.in_ok-g.g c.args.image.now))) ≡ Ok c.in_ok-turns.turns
begins c = ap begun_as (survey-state c.in_ok-g.g c.args.image.now c.survey-status.ensures) ∙ sym c.mount_turns.ensures ∙ c.in_ok-turns.was

lacks : (c : In_err-turns) → begun_as (option_as (state_of (views_in c.in_ok-g.g c.args.image.now))) ≡ Err c.in_err-turns.field-0.0
lacks c = ap begun_as (survey-state c.in_ok-g.g c.args.image.now c.survey-status.ensures) ∙ sym c.mount_turns.ensures ∙ c.in_err-turns.was

pub returns-in_err-g : goal.returns-in_err-g
unfolding rule.mount_due
returns-in_err-g c =
    leaves-illegal _ _ _ _ rule.mount_on _ c.new.ensures c.in_err-g.ensures.ok_part c.in_err-g.ensures.value c.from_residual.ensures.1

pub returns-in_err-turns : goal.returns-in_err-turns
returns-in_err-turns c =
    leaves-exit _ _ _ (exit_as _ c.from_residual-in_err-turns.ensures.1)
    (mount-none _ _ _ c.in_ok-g.g (legal _ _ _ c.new.ensures c.in_ok-g.ensures.ok_part) (lacks (goal.at.returns-in_err-turns c).In_err-turns))

pub ended-requires : goal.ended-requires
ended-requires c = left-within c.new-writer.ensures.budget c.mount-made.ensures

pub returns : goal.returns
returns c =
    let w = c.new-writer.ensures in
    let sizes = legal _ _ _ c.new.ensures c.in_ok-g.ensures.ok_part in
    let due = mount-due _ _ _ c.in_ok-g.g sizes (begins (goal.at.returns c).In_ok-turns) in
    let did = simp (ap blocks_of w.geometry, ap sectors_of w.geometry, w.image) at c.mount-made.ensures in
    let size = ap blocks_of w.geometry ∙ (from-sizes _ _ _ c.in_ok-g.g sizes).blocks in
    let left = leaves-made w.budget did c.args.sector_size c.in_ok-turns.turns size due in
    let same = c.mount-made.ensures.same ∙ w.same in
    rw c.ended.ensures (leaves-same (rw w.image at left) (grind (arith, common_steps, same)))
