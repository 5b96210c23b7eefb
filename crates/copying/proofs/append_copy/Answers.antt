-- `append_copy`: the entry's block tells its head, where its data blocks lie, and its bytes at the new place; the rest is an append.
-- Assumes nothing.
use mathlib.Core.Path.{◌≡◌, sym, ap, ap₂, subst, ◌∙◌}
use mathlib.Core.Bool.{true}
use mathlib.Core.List.{List, []}
use Prim.Native.Nat.{ℕ, ◌+◌, ◌-◌, ◌≤◌}
use native.Mathlib.Omega.{arith}
use lib.ListN.{get_or, take, drop}
use Rattle.rules.specs.Notation.{Each}
use Rattle.rules.specs.Ground.{Block, Sector, block_at}
use Rattle.rules.specs.Look.{Head, value, data_blocks, data_of, is_within}
use Rattle.rules.specs.Reading.{Entry}
use Rattle.rules.specs.Stores.{data_stores}
use Rattle.rules.proofs.Blocks.Data.{data-lie}
use Rattle.rules.proofs.Blocks.OnBytes.{Lies}
use Rattle.layout.specs.declared.Geometry.{Geometry}
use Rattle.layout.specs.Numbers.{sector_no}
use Rattle.layout.specs.Geometry.{blocks_of, sectors_of}
use Rattle.entry.specs.declared.Head.TheVariants as head
use Rattle.entry.specs.Answer.{scan_of}
use Rattle.image.proofs.Laws.{entries-counted}
use Rattle.copying.specs.declared.Source.{Source}
use Rattle.budget.specs.Budget.{held, shown}
use Rattle.append.specs.Append.{Fits}
use Rattle.copying.specs.Copy.{entry_in, source_as, copy_of}
use Rattle.append.proofs.Appending.{append-did, append-cut, room, fits}
use Rattle.copying.proofs.Copying.{Copied, copied-in, source-count, source-sized}
use Rattle.copying.proofs.append_copy.Goals as goal
use Rattle.copying.proofs.append_copy.Goals.{After-source_of-source, Start}

module _ (c : After-source_of-source) where
  -- the entry that is copied, its sector and its block
  abbrev entry : Entry
  entry = entry_in (shown c.args.writer.now) (sector_no c.args.from) c.args.n

  abbrev sector : Sector
  sector = get_or (held c.args.writer.now) (sector_no c.args.from) []

  abbrev block : Block
  block = block_at (held c.args.writer.now) (sector_no c.args.from) (blocks_of c.args.writer.now.geometry - 3 - c.args.n)

  abbrev source : Source
  source = c.source_of-source.result

  -- what the block tells
  told : Copied (blocks_of c.args.writer.now.geometry) sector block entry
  told = copied-in c.args.writer.now (sector_no c.args.from) c.args.n c.requires.from_bound c.requires.n_in_bounds c.requires.valued

  block-is : c.block-block.result.now ≡ block
  block-is = rw (c.image-image.ensures.geometry, c.image-image.ensures.bytes, c.new-at.ensures, c.blocks-2.ensures) at c.block-block.ensures

  source_is : source ≡ source_as block
  source_is = c.source_of-source.ensures ∙ ap source_as block-is

  head-is : entry.head ≡ value source.id source.length
  head-is = told.head ∙ ap (λ (x : Source). value x.id x.length) (sym source_is)

  -- the entry fits in the other sector
  within : is_within (blocks_of c.args.writer.now.geometry) (scan_of c.args.active.scan) (value source.id source.length) ≡ true
  within = subst (λ (h : Head). is_within (blocks_of c.args.writer.now.geometry) (scan_of c.args.active.scan) h ≡ true) head-is c.requires.fits

  fitting : Fits (blocks_of c.args.writer.now.geometry) c.args.active (head.Value source.id source.length)
  fitting =
      fits c.args.writer.now (sector_no c.args.active.sector) c.requires.carries.inside c.requires.carries.told (head.Value _ _) within

  -- its data blocks: where they lie, and where they go
  blocks-are : take (data_blocks source.length) (drop source.first sector) ≡ entry.blocks
  blocks-are =
      ap₂ (λ (n m : ℕ). take n (drop m sector)) (ap (λ (x : Source). data_blocks x.length) source_is) (ap (λ (x : Source). x.first) source_is) ∙ sym told.blocks

  source-inside : source.first + data_blocks source.length ≤ blocks_of c.args.writer.now.geometry
  source-inside = omega (arith, ap (λ (x : Source). data_blocks x.length) source_is, ap (λ (x : Source). x.first) source_is, told.inside)

  target-inside : c.args.active.scan.data_end + data_blocks source.length ≤ blocks_of c.args.writer.now.geometry
  unfolding data_of
  target-inside =
      omega (arith, room c.args.writer.now (sector_no c.args.active.sector) c.requires.carries.inside c.requires.carries.told (head.Value _ _) within)

  lie : Each (Lies (blocks_of c.args.writer.now.geometry) (sectors_of c.args.writer.now.geometry)) (data_stores (sector_no c.args.active.sector) c.args.active.scan.data_end entry.blocks)
  lie =
      let n : ℕ = data_blocks source.length in
      let m : ℕ = source.first in
      let number = source-count c.args.writer.now (sector_no c.args.from) m n c.requires.from_bound source-inside in
      subst (λ (bs : List Block). Each (Lies (blocks_of c.args.writer.now.geometry) (sectors_of c.args.writer.now.geometry)) (data_stores (sector_no c.args.active.sector) c.args.active.scan.data_end bs)) blocks-are
      (data-lie (blocks_of c.args.writer.now.geometry) (sectors_of c.args.writer.now.geometry) (sector_no c.args.active.sector) c.args.active.scan.data_end c.requires.carries.inside (rw number target-inside)
      (source-sized c.args.writer.now (sector_no c.args.from) m n c.requires.from_bound source-inside))

pub overflow_sub-blocks-2 : goal.overflow_sub-blocks-2
overflow_sub-blocks-2 c =
    omega (arith, c.blocks-2.ensures, (entries-counted c.args.writer.now.geometry c.args.writer.now.image.now (sector_no c.args.from) c.requires.from_bound).few, c.requires.n_in_bounds)

pub copy_data-requires-clause-source_inside : goal.copy_data-requires-clause-source_inside
copy_data-requires-clause-source_inside c = source-inside (goal.at.copy_data-requires-clause-source_inside c).After-source_of-source

pub copy_data-requires-clause-target_inside : goal.copy_data-requires-clause-target_inside
copy_data-requires-clause-target_inside c = target-inside (goal.at.copy_data-requires-clause-target_inside c).After-source_of-source

pub returns-in_err-copy_data-clause-did : goal.returns-in_err-copy_data-clause-did
returns-in_err-copy_data-clause-did c =
    let k = (goal.at.returns-in_err-copy_data-clause-did c).After-source_of-source in
    append-cut c.args.writer.now (sector_no c.args.active.sector) c.requires.carries.inside c.requires.carries.told (entry k)
    (rw (blocks-are k) at c.in_err-copy_data.ensures) c.from_residual.ensures.0

pub put_entry-requires-clause-fits : goal.put_entry-requires-clause-fits
put_entry-requires-clause-fits c =
    subst (λ (g : Geometry). Fits (blocks_of g) c.args.active (head.Value c.source_of-source.result.id c.source_of-source.result.length)) (sym c.in_ok-copy_data.ensures.geometry) (fitting (goal.at.put_entry-requires-clause-fits c).After-source_of-source)

pub returns-clause-did : goal.returns-clause-did
returns-clause-did c =
    let k = (goal.at.returns-clause-did c).After-source_of-source in
    let written =
    c.copied-bytes.ensures
    ∙ ap (copy_of c.args.active.cycle c.args.active.scan.data_end) (block-is k)
    ∙ sym ((told k).bytes c.args.active.cycle c.args.active.scan.data_end) in
    append-did c.args.writer.now (sector_no c.args.active.sector) c.requires.carries.inside c.requires.carries.told (entry k)
    (rw (blocks-are k) at c.in_ok-copy_data.ensures) (lie k) written (rw (sym (head-is k)) at c.put_entry.ensures.did)

pub returns-clause-active : goal.returns-clause-active
returns-clause-active c = rw (head-is (goal.at.returns-clause-active c).After-source_of-source) c.put_entry.ensures.active
