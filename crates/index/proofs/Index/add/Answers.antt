-- `Index::add`: the bucket is that of the entry, and the two stores are those of the law for one entry more.
-- Assumes nothing.
use mathlib.Core.Path.{◌≡◌, ap, ◌∙◌}
use Rattle.rules.specs.Entry.{id_of}
use Rattle.layout.specs.Numbers.{sector_no}
use Rattle.image.proofs.EntryBlocks.{entry-lies}
use Rattle.index.specs.Buckets.{bucket_of}
use Rattle.index.specs.Index.{entries_of}
use Rattle.index.proofs.Indexing.{bucket_at, index-more}
use Rattle.index.proofs.Index.add.Given.{Over}
use Rattle.index.proofs.Index.add.Goals as goal
use Rattle.index.proofs.Index.add.Goals.{After-bucket-at}

-- the bucket is the entry's
own-bucket : (g : Over) (c : After-bucket-at g) → c.bucket-at.result ≡ bucket_at g.row.N (entries_of c.args.self.now) c.args.self.now.count
own-bucket g c =
    let x = c.args.self.now in
    let lies = entry-lies x.image.geometry x.image.bytes.now x.image.backs (sector_no x.sector) x.count x.inside c.requires.more in
    c.bucket-at.ensures.bucket ∙ ap (bucket_of g.row.N) (c.id_in.ensures ∙ ap id_of c.block.ensures ∙ lies.id)

pub invariant_of-self : goal.invariant_of-self
invariant_of-self g c =
    let t = goal.at.invariant_of-self g c in
    record { inside = c.args.self.now.inside; indexes = rw (own-bucket g t.After-bucket-at) (index-more c.args.self.now.indexes c.requires.more) }
