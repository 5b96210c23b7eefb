-- `search::newest_at`: what is read and searched is sector s of the image.
-- Assumes nothing.
use mathlib.Core.Path.{◌≡◌, ap, ◌∙◌}
use lib.ListN.{length}
use Rattle.rules.specs.Reading.{View}
use Rattle.rules.specs.Meaning.{view_at}
use Rattle.layout.specs.Numbers.{sector_no}
use Rattle.sector.specs.Answer.{view_in}
use Rattle.image.specs.Answer.{views}
use Rattle.image.proofs.Sectors.{view-shown, read_count}
use Rattle.search.proofs.newest_at.Goals as goal
use Rattle.search.proofs.newest_at.Goals.{After-sector-bytes}

seen : (c : After-sector-bytes) → view_at (views c.args.image.now) (sector_no c.args.s) ≡ view_in c.sector-bytes.result
seen c =
    let image = c.args.image.now in
    view-shown image.geometry image.bytes.now (sector_no c.args.s) c.requires.s_bound c.sector-bytes.result c.sector-bytes.ensures.geometry c.sector-bytes.ensures.blocks

pub newest_in-requires : goal.newest_in-requires
newest_in-requires c =
    let image = c.args.image.now in
    let counted = read_count image.geometry image.bytes.now (sector_no c.args.s) c.requires.s_bound c.sector-bytes.result c.sector-bytes.ensures.geometry c.sector-bytes.ensures.blocks
    c.cycle_at-cycle.ensures c.take_entries-entries.ensures
    ∙ ap (λ (v : View). length v.entries) (seen (goal.at.newest_in-requires c).After-sector-bytes) in
    record { counted = counted }

pub returns : goal.returns
returns c = rw (seen (goal.at.returns c).After-sector-bytes) c.newest_in.ensures
