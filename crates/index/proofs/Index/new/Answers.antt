-- `Index::new`: tables of zeros index no entry.
-- Assumes nothing.
use Rattle.index.proofs.IndexLaws.{index-none}
use Rattle.index.proofs.Index.new.Goals as goal

pub invariant_of-result : goal.invariant_of-result
invariant_of-result g c = record { inside = c.requires.s_bound; indexes = index-none _ _ c.requires.some c.requires.most c.requires.fits }
