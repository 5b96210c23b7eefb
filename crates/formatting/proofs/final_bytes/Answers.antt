-- `final_bytes`: the constants are a lead and a close of cycle 1, by computing both.
-- Assumes nothing.
use mathlib.Core.Logic.{⊎_elim}
use Rattle.rules.proofs.Computing.{computing}
use Rattle.formatting.specs.Finals.{kind_bytes}
use Rattle.formatting.proofs.final_bytes.Goals as goal

pub returns-in-Lead : goal.returns-in-Lead
unfolding computing kind_bytes
returns-in-Lead c = rw c.in-Lead.is

pub returns-in-Close : goal.returns-in-Close
unfolding computing kind_bytes
returns-in-Close c = ⊎_elim (λ close. rw close) (λ done. rw done) c.in-Close.is
