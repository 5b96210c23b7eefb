-- `active::read`: what is read is sector s of the image.
-- Assumes nothing.
use mathlib.Core.Path.{sym, ◌∙◌}
use Rattle.layout.specs.Numbers.{sector_no}
use Rattle.image.proofs.Sectors.{cycle-at, read_count, read-scan}
use Rattle.image.proofs.active.read.Goals as goal

pub returns : goal.returns
returns c =
    let image = c.args.image.now in
    let s = sector_no c.args.s in
    let cycle = c.cycle_at-cycle.ensures ∙ sym (cycle-at image.geometry image.bytes.now s c.requires.s_bound) in
    let count = read_count image.geometry image.bytes.now s c.requires.s_bound c.sector.result c.sector.ensures.geometry c.sector.ensures.blocks c.cycle_at-cycle.ensures c.take_entries-entries.ensures in
    let scan = read-scan image.geometry image.bytes.now s c.requires.s_bound c.sector.result c.sector.ensures.geometry c.sector.ensures.blocks c.cycle_at-cycle.ensures c.take_entries-entries.ensures in
    λ i. record { sector = c.args.s; cycle = cycle i; entries = count i; scan = scan i }
