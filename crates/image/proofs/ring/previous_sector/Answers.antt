-- `ring::previous_sector`: the two answers are the two cases of the rules' predecessor.
-- Assumes nothing.
use mathlib.Core.Path.{◌≡◌, ap, ◌∙◌}
use mathlib.Core.Logic.{⊎_elim}
use native.Mathlib.Omega.{arith}
use Rattle.rules.proofs.Ring.Newest.{previous-cases}
use Rattle.layout.specs.Numbers.{sector_no}
use Rattle.image.proofs.ring.previous_sector.Goals as goal

pub returns-then-number-eq0 : goal.returns-then-number-eq0
returns-then-number-eq0 c =
    let none : c.args.s.0 ≡ 0 = omega arith in
    ap sector_no c.new.ensures ∙ ⊎_elim (λ l. omega arith) (λ r. absurd (r.0 none)) (previous-cases c.args.g.sectors c.args.s.0)

pub returns : goal.returns
returns c =
    let some : c.args.s.0 ≡ 0 → ⊥ = λ e. omega arith in
    ap sector_no c.new-2.ensures ∙ ⊎_elim (λ l. absurd (some l.0)) (λ r. omega arith) (previous-cases c.args.g.sectors c.args.s.0)
