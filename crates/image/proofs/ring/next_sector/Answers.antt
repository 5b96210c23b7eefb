-- `ring::next_sector`: the two answers are the two cases of the rules' successor.
-- Assumes nothing.
use mathlib.Core.Path.{◌≡◌, sym, ap, ◌∙◌}
use mathlib.Core.Logic.{⊎_elim}
use Prim.Native.Nat.{suc}
use native.Mathlib.Omega.{arith}
use Rattle.rules.proofs.Ring.Order.{next-cases}
use Rattle.layout.specs.Numbers.{sector_no}
use Rattle.image.proofs.ring.next_sector.Goals as goal

pub returns-then-above-sectors : goal.returns-then-above-sectors
returns-then-above-sectors c = let last : suc c.args.s.0 ≡ c.args.g.sectors = omega arith in
    ap sector_no c.new.ensures ∙ ⊎_elim (λ l. sym l.1) (λ r. absurd (r.0 last)) (next-cases _ _)

pub returns : goal.returns
returns c = let more : suc c.args.s.0 ≡ c.args.g.sectors → ⊥ = λ e. omega arith in
    ap sector_no c.new-2.ensures ∙ ⊎_elim (λ l. absurd (more l.0)) (λ r. omega arith) (next-cases _ _)
