-- `Image::block` reads the block of that sector.
-- Assumes nothing.
use mathlib.Core.Path.{ap, ◌∙◌}
use mathlib.Core.List.{[]}
use lib.ListN.{get_or}
use Rattle.rules.specs.Ground.{Sector, block_at}
use Rattle.layout.specs.Numbers.{block_no}
use Rattle.layout.proofs.image.Image.block.Goals as goal

pub returns : goal.returns
unfolding block_at
returns c = c.block.ensures ∙ ap (λ (sector : Sector). get_or sector (block_no c.args.b) []) c.sector.ensures.blocks
