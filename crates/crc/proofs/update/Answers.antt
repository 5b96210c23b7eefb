-- `update`: a turn's steps lead to the next byte, and the last byte to the CRC.
use mathlib.Core.Path.{◌∙◌, sym}
use native.Mathlib.Omega.{arith}
use Rattle.rules.proofs.Format.Checksum.{crc-next, crc-end}
use Rattle.crc.proofs.update.Goals as goal

pub loop-byte-preserved : goal.loop-byte-preserved
loop-byte-preserved g c = crc-next _ _ c.loop-byte.byte-index _ (omega arith) c.after-register.ensures ∙ c.loop-byte.invariant

pub returns : goal.returns
returns g c = sym (crc-end _ _ c.loop-byte.byte-index _ (omega arith)) ∙ c.loop-byte.invariant
