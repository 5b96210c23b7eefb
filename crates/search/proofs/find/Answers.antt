-- `search::find`: what the newest entry tells.
-- Assumes nothing.
use mathlib.Core.Path.{sym, ap, ◌∙◌}
use native.Mathlib.Omega.{arith}
use Rattle.layout.specs.Geometry.{blocks_of}
use Rattle.layout.specs.Image.{sectors_in}
use Rattle.layout.specs.Numbers.{sector_no}
use Rattle.entry.specs.Answer.{id_no}
use Rattle.search.specs.Search.{sought_in}
use Rattle.search.specs.Value.{found_as}
use Rattle.image.proofs.Sectors.{views-count}
use Rattle.search.proofs.SearchLaws.{sought-stands, newest-at, newest-none}
use Rattle.search.proofs.find.Goals as goal

pub returns-in_err-sector : goal.returns-in_err-sector
unfolding found_as
returns-in_err-sector c =
    let image = c.args.image.now in
    let nothing = newest-none (sought_in image (sector_no c.args.w) (id_no c.args.id)) (sym c.newest_entry.ensures ∙ c.in_err-sector.was) in
    c.from_residual.ensures ∙ ap (found_as (blocks_of image.geometry) (sectors_in image)) (sym nothing)

pub invariant_of-value_at : goal.invariant_of-value_at
invariant_of-value_at c =
    let image = c.args.image.now in
    let found = newest-at (sought_in image (sector_no c.args.w) (id_no c.args.id)) (sym c.newest_entry.ensures ∙ c.in_ok-sector.was) in
    let stands = sought-stands image.geometry image.bytes.now (id_no c.args.id) (sector_no c.args.w) c.requires.w_bound _ found in
    record { here = record { sector_inside = omega (arith, stands.sector, views-count image.geometry image.bytes.now); inside = stands.entry } }

pub returns : goal.returns
unfolding found_as
returns c =
    let image = c.args.image.now in
    let found = newest-at (sought_in image (sector_no c.args.w) (id_no c.args.id)) (sym c.newest_entry.ensures ∙ c.in_ok-sector.was) in
    c.value_at.ensures ∙ ap (found_as (blocks_of image.geometry) (sectors_in image)) (sym found)
