-- `update`: the CRC from here on, with the register as it is, stays that of all bytes from the start.
use mathlib.Core.Path.{◌≡◌}
use lib.ListN.{drop}
use Rattle.rules.specs.Checksum.{crc}
use Rattle.crc.proofs.update.Given as goal

abbrev pub invariant-loop-byte : goal.invariant-loop-byte
invariant-loop-byte g l =
    crc g.R.Register.step (g.R.Register.value l.register) (drop l.byte-index l.bytes) ≡ crc g.R.Register.step (g.R.Register.value l.fn.start) l.bytes
