-- `sector::is_unused`: the first entry is block B-3.
-- Assumes nothing.
use Rattle.std.specs.Prelude.{is_ok}
use mathlib.Core.Path.{◌≡◌, sym, ap, ◌∙◌}
use mathlib.Core.Bool.{not, not-not}
use mathlib.Core.List.{[]}
use Prim.Native.Nat.{ℕ, ◌-◌}
use native.Mathlib.Omega.{arith}
use lib.ListN.{get_or}
use Rattle.rules.specs.Look as rule
use Rattle.rules.specs.Look.{look, start, is_entry}
use Rattle.rules.specs.Reading.{view_of}
use Rattle.layout.specs.Geometry.{blocks_of}
use Rattle.layout.specs.Image.{blocks_in}
use Rattle.entry.specs.Answer.{verdict_as}
use Rattle.entry.proofs.Laws.{ok-entry}
use Rattle.sector.specs.Answer.{view_in}
use Rattle.sector.proofs.Standing.{unused-by}
use Rattle.sector.proofs.is_unused.Goals as goal
use Rattle.sector.proofs.is_unused.Goals.{After-block}

-- the rules' verdict on that block, and the answer for it
abbrev verdict_on : After-block → rule.Verdict
verdict_on c =
    let B : ℕ = blocks_of c.args.sector.now.geometry in
    look B (view_in c.args.sector.now).cycle start (get_or (blocks_in c.args.sector.now) (B - 3) [])

judged : (c : After-block) → c.block.result ≡ verdict_as start (verdict_on c)
judged c = rw (c.start.ensures, c.cycle_in.ensures, c.block-first.ensures, c.new.ensures, c.blocks-2.ensures) at c.block.ensures

pub block-requires : goal.block-requires
unfolding start
block-requires c = rw c.start.ensures (record { needs = omega arith; data_end = omega arith })

pub returns : goal.returns
unfolding view_of
returns c =
    let first : is_ok c.block.result ≡ is_entry (verdict_on (goal.at.returns c).After-block) = ap is_ok (judged (goal.at.returns c).After-block) ∙ ok-entry _ _ in
    sym (not-not c.is_err.result) ∙ ap not (sym c.is_err.ensures.negation ∙ first)
    ∙ sym (unused-by (blocks_of c.args.sector.now.geometry) _ _ c.args.sector.now.geometry.sound.blocks_from)
