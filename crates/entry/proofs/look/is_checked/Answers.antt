-- `look::is_checked`: the part from byte 1 on is what the CRC-8 is taken of.
-- Assumes nothing.
use mathlib.Core.Path.{ap, ◌∙◌}
use lib.Dec.{eqb}
use lib.ListN.{get_or}
use Rattle.rules.specs.Checksum.{crc8}
use Rattle.rules.specs.Entry.{check_of}
use Rattle.rules.specs.Look.{is_checked}
use Rattle.entry.proofs.Laws.{rest_of_block}
use Rattle.entry.proofs.look.is_checked.Goals as goal

pub returns : goal.returns
unfolding is_checked check_of
returns c = let block = c.args.block.now in
    ap (eqb (get_or block 0 0)) (c.crc8.ensures ∙ ap crc8 (rest_of_block 1 block c.told-block))
