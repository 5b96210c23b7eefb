-- `live::is_live`: the two fields of the entry's block tell whether it is a value, and the marks whether it is renewed.
-- Assumes nothing.
use mathlib.Core.Path.{◌≡◌, sym, ap, ◌∙◌}
use mathlib.Core.Bool.{not}
use native.Mathlib.Omega.{arith}
use Rattle.rules.specs.Entry.{id_of, length_of}
use Rattle.layout.specs.Numbers.{sector_no}
use Rattle.image.specs.EntriesIn.{block_of}
use Rattle.image.proofs.EntryBlocks.{entries-few}
use Rattle.live.proofs.LiveEntries.{reserved-no-value, empty-no-value, filled-value}
use Rattle.live.proofs.is_live.Goals as goal
use Rattle.live.proofs.is_live.Goals.{After-id_in, After-length_in}

-- the two fields are those of the entry's block
id-read : (c : After-id_in) → id_of (block_of c.args.entry.now) ≡ c.id_in.result
id-read c = rw c.block-block.ensures at (sym c.id_in.ensures)

length-read : (c : After-length_in) → length_of (block_of c.args.entry.now) ≡ c.length_in.result
length-read c = rw c.block-block.ensures at (sym c.length_in.ensures)

pub returns-then-id_in : goal.returns-then-id_in
returns-then-id_in c =
    let e = c.args.entry.now in
    rw (reserved-no-value e.image.geometry e.image.bytes.now e.image.backs (sector_no e.sector) e.number e.here.sector_inside e.here.inside
    (id-read (goal.at.returns-then-id_in c).After-id_in ∙ c.if-id_in.true))

pub returns-then-length_in-eq0 : goal.returns-then-length_in-eq0
returns-then-length_in-eq0 c =
    let e = c.args.entry.now in
    rw (empty-no-value e.image.geometry e.image.bytes.now e.image.backs (sector_no e.sector) e.number e.here.sector_inside e.here.inside
    (length-read (goal.at.returns-then-length_in-eq0 c).After-length_in ∙ c.if-length_in-eq0.true))

pub has-requires : goal.has-requires
has-requires c =
    let e = c.args.entry.now in
    omega (arith, e.here.inside, entries-few e.image.geometry e.image.bytes.now (sector_no e.sector) e.here.sector_inside)

pub returns : goal.returns
returns c =
    let e = c.args.entry.now in
    rw (filled-value e.image.geometry e.image.bytes.now e.image.backs (sector_no e.sector) e.number e.here.sector_inside e.here.inside
    (λ same. c.if-id_in.false (sym (id-read (goal.at.returns c).After-id_in) ∙ same))
    (λ none. c.if-length_in-eq0.false (sym (length-read (goal.at.returns c).After-length_in) ∙ none)))
    (ap not c.has.ensures)
