-- `delete`: absent, or the deletion, which is due as a change.
-- Assumes nothing.
use mathlib.Core.Path.{◌≡◌, refl, sym, subst, ◌∙◌}
use Prim.Native.Nat.{◌-◌, ◌*◌}
use native.Mathlib.Omega.{arith}
use Rattle.rules.specs.Ground.{block_size, kept_from_deletions, image_of}
use Rattle.rules.specs.Look.{need_of, is_done}
use Rattle.rules.specs.Stores.{deletion_entry}
use Rattle.rules.specs.Calls.{Due, change_on, delete_on}
use Rattle.layout.specs.Numbers.{sector_no}
use Rattle.layout.specs.Geometry.{blocks_of, sectors_of}
use Rattle.entry.specs.declared.Head.{Head}
use Rattle.entry.specs.Answer.{id_no, limit_of}
use Rattle.image.proofs.Laws.{rest-inside}
use Rattle.search.proofs.Valued.{found-value, found_nothing}
use Rattle.answer.specs.Answer.{Leaves}
use Rattle.answer.proofs.Leaving.{exit-none, leaves-exit}
use Rattle.change.specs.Ready.{Changes}
use Rattle.at_rest.proofs.Changing.{delete-absent, delete-rest}
use Rattle.at_rest.proofs.delete.Goals as goal
use Rattle.at_rest.proofs.delete.Goals.{In_ok-ok_or}

-- the ID has a value, so there is a deletion to make
due : (c : In_ok-ok_or) → delete_on (blocks_of c.args.g) (sectors_of c.args.g) (image_of (blocks_of c.args.g) (sectors_of c.args.g) c.args.image.now) (id_no c.args.id)
    ≡ change_on (blocks_of c.args.g) (sectors_of c.args.g) (sector_no c.args.w) (blocks_of c.args.g - kept_from_deletions) (deletion_entry (id_no c.args.id))
    (image_of (blocks_of c.args.g) (sectors_of c.args.g) c.args.image.now)
due c =
    let inside = rest-inside c.args.g c.args.image.now (sector_no c.args.w) c.requires.rest in
    let held = found-value c.args.g c.args.image.now c.requires.backs (id_no c.args.id) (sector_no c.args.w) inside (sym c.find.ensures ∙ c.in_ok-ok_or.ensures.ok_part) in
    delete-rest c.args.g c.args.image.now (id_no c.args.id) c.args.id.legal c.requires.rest held.told

pub find-requires : goal.find-requires
find-requires c =
    record { w_bound = rest-inside c.args.g c.args.image.now (sector_no c.args.w) c.requires.rest }

pub returns-in_err-ok_or : goal.returns-in_err-ok_or
returns-in_err-ok_or c =
    let none = c.in_err-ok_or.ensures.ok_part in
    let inside = rest-inside c.args.g c.args.image.now (sector_no c.args.w) c.requires.rest in
    let nothing = found_nothing c.args.g c.args.image.now c.requires.backs (id_no c.args.id) (sector_no c.args.w) inside (sym c.find.ensures ∙ none) in
    leaves-exit _ c.args.allowance c.args.image.now (exit-none c.from_residual.result none c.in_err-ok_or.ensures.value c.from_residual.ensures.1)
    (delete-absent c.args.g c.args.image.now (id_no c.args.id) c.args.id.legal c.requires.rest nothing)

pub make-requires-clause-changes : goal.make-requires-clause-changes
unfolding is_done need_of limit_of
make-requires-clause-changes c =
    subst (λ (h : Head). Changes (blocks_of c.args.g) h) (sym c.deletion.ensures.head)
    (record { plain = refl; fits = omega (arith, c.args.g.sound.blocks_from) })

pub returns : goal.returns
unfolding limit_of
returns c =
    subst (λ (x : Due). Leaves (blocks_of c.args.g * block_size) x c.args.allowance c.args.image.now c.make.new.image c.make.result)
    (sym (due (goal.at.returns c).In_ok-ok_or)) (rw c.deletion.ensures.head at c.make.ensures)
