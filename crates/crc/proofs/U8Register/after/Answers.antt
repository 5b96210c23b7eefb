-- `after` of a byte: the table's entry is eight steps, by one test over its 256 entries, which antt computes.
use mathlib.Core.Path.{refl}
use lib.Bits.{xor_lt}
use Rattle.rules.specs.Notation.{times}
use Rattle.rules.specs.Checksum.{step8}
use Rattle.crc.specs.declared.tables.TheConstants.{CRC8}
use Rattle.crc.proofs.Table.{is_right, right}
use Rattle.crc.proofs.U8Register.after.Goals as goal

pub returns : goal.returns
unfolding is_right times step8
returns c = right step8 CRC8 tt refl _ (xor_lt 8 _ _ c.ranges.self.fits c.ranges.byte.fits)
