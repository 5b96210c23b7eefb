-- `sector::cycle_in`: what is looked at is block B-1.
-- Assumes nothing.
use mathlib.Core.Path.{ap, ◌∙◌}
use Rattle.rules.specs.Entry.{cycle_of}
use Rattle.rules.specs.Reading.{view_of}
use Rattle.sector.proofs.cycle_in.Goals as goal

pub returns : goal.returns
unfolding view_of
returns c = c.cycle_in.ensures ∙ ap cycle_of (rw (c.new.ensures, c.blocks-2.ensures) at c.block.ensures)
