-- What a change begins with.
use Rattle.std.specs.Prelude.{◌≡◌, false, ℕ, ◌≤◌}
use Rattle.std.proofs.Math.Option.{some}
use Rattle.rules.specs.Look.{need_of, is_done}
use Rattle.rules.specs.Meaning.{at_rest, state_of}
use Rattle.layout.specs.Numbers.{sector_no}
use Rattle.entry.specs.declared.Head.{Head}
use Rattle.entry.specs.Answer.{head_of, limit_of}
use Rattle.image.specs.declared.active.Active.{Active}
use Rattle.image.specs.Answer.{Carries}
use Rattle.budget.specs.declared.Writer.{Writer}
use Rattle.budget.specs.Budget.{shown}

-- An image at rest, with what is carried of its working sector.
pub record Opened (writer : Writer) (active : Active) : Type 0 where
  pub carried : Carries writer.geometry writer.image.now active
  pub rest : state_of (shown writer) ≡ some (at_rest (sector_no active.sector))

-- A value, or a deletion, that an empty sector has room for.
pub record Changes (B : ℕ) (head : Head) : Type 0 where
  pub plain : is_done (head_of head) ≡ false
  pub fits : need_of (head_of head) ≤ limit_of B (head_of head)
