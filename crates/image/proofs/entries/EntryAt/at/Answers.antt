-- `EntryAt::at`: entries stand in the blocks from B-3 downward.
-- Assumes nothing.
use native.Mathlib.Omega.{arith}
use Rattle.layout.specs.Numbers.{sector_no}
use Rattle.image.proofs.EntryBlocks.{entry-low}
use Rattle.image.proofs.entries.EntryAt.at.Goals as goal

pub overflow_sub-blocks-2 : goal.overflow_sub-blocks-2
overflow_sub-blocks-2 c =
    let e = c.args.self.now in
    omega (arith, c.blocks-2.ensures, entry-low e.image.geometry e.image.bytes.now e.image.backs (sector_no e.sector) e.number e.here.sector_inside e.here.inside)
