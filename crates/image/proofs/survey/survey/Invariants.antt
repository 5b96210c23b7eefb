-- `survey::survey`. The loop's invariant: the sectors below n are surveyed.
-- Assumes nothing.
use Rattle.image.specs.Answer.{views}
use Rattle.image.proofs.Surveyed.{Surveyed}
use Rattle.image.proofs.survey.survey.Given as goal

abbrev pub invariant-loop-n : goal.invariant-loop-n
invariant-loop-n l = Surveyed (views l.image) l.classes l.n
