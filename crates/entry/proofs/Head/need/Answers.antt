-- `Head::need`: each arm knows its head's constructor, at which `need_of` computes.
-- Assumes nothing.
use mathlib.Core.Path.{sym, ap, ◌∙◌}
use Prim.Native.Nat.{ℕ, ◌+◌}
use native.Mathlib.Omega.{arith}
use Rattle.rules.specs.Look.{need_of}
use Rattle.entry.specs.declared.Head.{Head}
use Rattle.entry.specs.Answer.{head_of}
use Rattle.rules.proofs.Format.Look.{data-blocks-le}
use Rattle.entry.proofs.Head.need.Goals as goal

pub overflow_add-result : goal.overflow_add-result
overflow_add-result c = omega (arith, c.data_blocks.ensures, data-blocks-le c.in-Value.length)

pub returns-in-Done : goal.returns-in-Done
unfolding need_of
returns-in-Done c = sym (ap (λ (h : Head). need_of (head_of h)) c.in-Done.is)

pub returns-in-Deletion : goal.returns-in-Deletion
unfolding need_of
returns-in-Deletion c = sym (ap (λ (h : Head). need_of (head_of h)) c.in-Deletion.is)

pub returns-in-Value : goal.returns-in-Value
unfolding need_of
returns-in-Value c = ap (λ (n : ℕ). 1 + n) c.data_blocks.ensures ∙ sym (ap (λ (h : Head). need_of (head_of h)) c.in-Value.is)
