-- `Index::find`: the invariant is that only the entries up to the linked one can name the ID; a turn goes to the next of the bucket.
-- Assumes nothing.
use Rattle.entry.specs.Answer.{id_no}
use Rattle.index.specs.Buckets.{link_to}
use Rattle.index.specs.Index.{entries_of}
use Rattle.index.proofs.Indexing.{Narrowed}
use Rattle.index.proofs.Index.find.Given as goal

abbrev pub invariant-loop-link : goal.invariant-loop-link
invariant-loop-link g l = Narrowed g.row.N (id_no l.id) (entries_of l.self) l.self.count (link_to l.link)

abbrev pub decreases-loop-link : goal.decreases-loop-link
decreases-loop-link g l = link_to l.link
