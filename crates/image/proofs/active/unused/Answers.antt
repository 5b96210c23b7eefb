-- `active::unused`: without entries there is nothing to count.
-- Assumes nothing.
use mathlib.Core.Path.{sym, ap, ◌∙◌}
use mathlib.Core.List.{List}
use lib.ListN.{length}
use Rattle.rules.specs.Look.{start}
use Rattle.rules.specs.Reading.{Entry, after_all}
use Rattle.layout.specs.Numbers.{sector_no}
use Rattle.entry.specs.Answer.{scan_as}
use Rattle.image.proofs.Sectors.{cycle-at}
use Rattle.image.proofs.active.unused.Goals as goal

pub returns : goal.returns
unfolding after_all
returns c =
    let s = sector_no c.args.s in
    let cycle = c.cycle_at.ensures ∙ sym (cycle-at c.args.image.now.geometry c.args.image.now.bytes.now s c.requires.s_bound) in
    let count = ap length (sym c.requires.empty) in
    let scan = c.start.ensures ∙ ap (λ (es : List Entry). scan_as (after_all start es)) (sym c.requires.empty) in
    λ i. record { sector = c.args.s; cycle = cycle i; entries = count i; scan = scan i }
