-- `SectorBytes::block`: a sector's blocks are its pieces of 16 bytes.
-- Assumes nothing.
use mathlib.Core.Path.{◌≡◌, sym, ◌∙◌}
use mathlib.Core.List.{List}
use Prim.Native.Nat.{ℕ, ◌*◌}
use lib.ListN.{take, drop}
use Rattle.std.proofs.Common.{rules}
use Rattle.rules.specs.Ground.{block_size, sector_of}
use Rattle.rules.proofs.Format.Ground.{get_or-pieces}
use Rattle.layout.specs.Geometry.{blocks_of}
use Rattle.layout.specs.Numbers.{block_no}
use Rattle.layout.proofs.image.SectorBytes.block.Goals as goal

pub returns : goal.returns
unfolding sector_of
returns c =
    let bytes : List ℕ = c.args.self.now.bytes.now in
    let read : c.unwrap.result.now ≡ take block_size (drop (block_no c.args.b * block_size) bytes) = search rules in
    read ∙ sym (get_or-pieces (blocks_of c.args.self.now.geometry) block_size bytes (block_no c.args.b) c.requires)
