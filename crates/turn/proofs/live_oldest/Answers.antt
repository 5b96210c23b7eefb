-- `live_oldest`: the sector before u is the newest, so that u is the one that is ignored.
-- Assumes nothing.
use mathlib.Core.Path.{◌≡◌, sym, ap, ap₂, ◌∙◌}
use Prim.Native.Nat.{ℕ}
use native.Mathlib.Omega.{arith}
use Rattle.rules.specs.Meaning.{next}
use Rattle.rules.proofs.Ring.Order.{next-lt, next-ne}
use Rattle.rules.proofs.Ring.Newest.{previous-lt, next-previous}
use Rattle.layout.specs.Numbers.{sector_no}
use Rattle.layout.specs.Geometry.{sectors_of}
use Rattle.mask.specs.Flags.{padded}
use Rattle.mask.specs.Marks.{max_marks}
use Rattle.image.specs.Answer.{views}
use Rattle.live.specs.Live.{live_flags_in}
use Rattle.turn.proofs.live_oldest.Goals as goal
use Rattle.turn.proofs.live_oldest.Goals.{After-previous_sector}

-- u is the sector after the newest
newest-is : (p : After-previous_sector) → next (sectors_of p.args.image.geometry) (sector_no p.previous_sector.result) ≡ sector_no p.args.u
newest-is p =
    ap (next (sectors_of p.args.image.geometry)) p.previous_sector.ensures ∙ next-previous (sectors_of p.args.image.geometry) (sector_no p.args.u) p.requires.u_bound

pub invariant_of-counted : goal.invariant_of-counted
invariant_of-counted c =
    record {
      counted = c.requires.counts;
      inside = omega (arith, c.previous_sector.ensures, previous-lt (sectors_of c.args.image.geometry) (sector_no c.args.u) c.requires.u_bound);
    }

pub marks-requires-clause-s_bound : goal.marks-requires-clause-s_bound
marks-requires-clause-s_bound c =
    omega (arith, c.next_sector.ensures, next-lt (sectors_of c.args.image.geometry) (sector_no c.args.u) c.requires.u_bound)

pub marks-requires-clause-not_spare : goal.marks-requires-clause-not_spare
marks-requires-clause-not_spare c =
    λ same. next-ne (sectors_of c.args.image.geometry) (sector_no c.args.u) c.args.image.geometry.sound.sectors_from
    (sym c.next_sector.ensures ∙ same ∙ newest-is (goal.at.marks-requires-clause-not_spare c).After-previous_sector)

pub returns : goal.returns
returns c =
    c.marks.ensures
    ∙ ap₂ (λ (u s : ℕ). padded max_marks (live_flags_in u s (views c.args.image))) (newest-is (goal.at.returns c).After-previous_sector) c.next_sector.ensures
