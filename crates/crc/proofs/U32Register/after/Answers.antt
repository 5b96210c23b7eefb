-- `after` of a byte: the table's entry is eight steps, by one test over its 256 entries, which antt computes.
-- The rest of the register, xored in, is not changed by them, by `step32-byte`.
use mathlib.Core.Path.{refl, ◌∙◌, sym, ap}
use Prim.Native.Nat.{ℕ, ◌/◌, ◌%◌}
use native.Mathlib.Omega.{arith}
use lib.Bits.{bit_xor}
use Rattle.rules.specs.Notation.{times}
use Rattle.rules.specs.Checksum.{step32}
use Rattle.rules.proofs.Format.Checksum.{step32-byte}
use Rattle.crc.specs.declared.tables.TheConstants.{CRC32}
use Rattle.crc.proofs.Table.{is_right, right}
use Rattle.crc.proofs.U32Register.after.Goals as goal

pub returns : goal.returns
unfolding is_right times step32
returns c =
    ap (λ (x : ℕ). bit_xor x (c.args.self / 256)) (right step32 CRC32 tt refl (bit_xor c.args.self c.args.byte % 256) (omega arith))
    ∙ sym (step32-byte c.args.self c.args.byte c.ranges.byte.fits)
