-- `blank::put_blank` puts the bytes of a blank block.
-- Assumes nothing.
use Rattle.rules.specs.Stores.{blank_store}
use Rattle.budget.proofs.blank.put_blank.Goals as goal

pub returns : goal.returns
unfolding blank_store
returns c = rw c.bytes.ensures at c.put.ensures
