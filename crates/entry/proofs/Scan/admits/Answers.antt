-- `Scan::admits`: each arm knows its head's constructor, at which `is_within` computes to the arm's own test.
-- Assumes nothing.
use mathlib.Core.Path.{sym, ap, ◌∙◌}
use Prim.Native.Nat.{ℕ, ◌+◌, ◌-◌, ◌<◌, ◌^◌}
use native.Mathlib.Omega.{arith}
use lib.Dec.{leb}
use Rattle.rules.specs.Ground.{kept_from_values}
use Rattle.rules.specs.Look.{need_of, is_within}
use Rattle.layout.specs.Geometry.{blocks_of}
use Rattle.entry.specs.Answer.{scan_of, head_of}
use Rattle.rules.proofs.Format.Look.{data-blocks-le}
use Rattle.entry.proofs.Scan.admits.Goals as goal
use Rattle.entry.proofs.Scan.admits.Goals.{After-data_blocks}

few : (c : After-data_blocks) → c.data_blocks.result < 2 ^ 16
few c = omega (arith, c.data_blocks.ensures, data-blocks-le c.in-Value.length)

pub overflow_add-result-in-Value : goal.overflow_add-result-in-Value
overflow_add-result-in-Value c = omega (arith, few (goal.at.overflow_add-result-in-Value c).After-data_blocks)

pub overflow_add-result-in-Value-2 : goal.overflow_add-result-in-Value-2
overflow_add-result-in-Value-2 c = omega (arith, few (goal.at.overflow_add-result-in-Value-2 c).After-data_blocks)

pub returns-in-Done : goal.returns-in-Done
unfolding is_within
returns-in-Done c =
    sym (ap (λ h. is_within (blocks_of c.args.g) (scan_of c.args.self) (head_of h)) c.in-Done.is)

pub returns-in-Deletion : goal.returns-in-Deletion
unfolding is_within need_of
returns-in-Deletion c =
    ap (leb (c.args.self.needs + 1)) c.deletion_limit.ensures
    ∙ sym (ap (λ h. is_within (blocks_of c.args.g) (scan_of c.args.self) (head_of h)) c.in-Deletion.is)

pub returns-in-Value : goal.returns-in-Value
unfolding is_within need_of
returns-in-Value c =
    ap (leb (c.args.self.needs + (1 + c.data_blocks.result))) c.value_limit.ensures
    ∙ ap (λ (n : ℕ). leb (c.args.self.needs + (1 + n)) (blocks_of c.args.g - kept_from_values)) c.data_blocks.ensures
    ∙ sym (ap (λ h. is_within (blocks_of c.args.g) (scan_of c.args.self) (head_of h)) c.in-Value.is)
