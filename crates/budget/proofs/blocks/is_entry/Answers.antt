-- `blocks::is_entry`: the verdict on the block decides.
-- Assumes nothing.
use mathlib.Core.Path.{◌≡◌, refl, ap, ◌∙◌}
use Rattle.std.specs.Prelude.{Result, is_ok}
use Rattle.rules.specs.Look as rule
use Rattle.entry.specs.declared.Scan.{Scan}
use Rattle.entry.specs.declared.Head.{Head}
use Rattle.entry.specs.declared.NoEntry.{NoEntry}
use Rattle.entry.specs.Answer.{verdict_as}
use Rattle.budget.proofs.blocks.is_entry.Goals as goal

ok-entry : (before : rule.Scan) (v : rule.Verdict) → is_ok (verdict_as before v) ≡ rule.is_entry v
unfolding rule.is_entry
ok-entry before (rule.entry h) = refl
ok-entry before rule.blank = refl
ok-entry before rule.other_cycle = refl
ok-entry before rule.wrong_check = refl
ok-entry before rule.wrong_form = refl
ok-entry before rule.over_limit = refl

pub returns : goal.returns
returns c =
    c.is_ok.ensures.value ∙ ap (λ (r : Result (Head × Scan) NoEntry). is_ok r) (rw c.block.ensures at c.block-2.ensures) ∙ ok-entry _ _
