-- `block`: the parts that are laid out are the fields and the whole body, and the check byte is their CRC-8.
-- Assumes nothing.
use mathlib.Core.Path.{refl, ◌∙◌}
use Prim.Native.Nat.{◌≤◌}
use native.Mathlib.Omega.{arith}
use lib.ListN.{length}
use Rattle.std.proofs.Common.{append-nil}
use Rattle.std.proofs.lemmas.List.{take_all}
use Rattle.rules.specs.Notation.{bytes_of}
use Rattle.rules.specs.Entry.{fields, sealed, encode}
use Rattle.encode.proofs.Bytes.{two-bytes, four-bytes}
use Rattle.encode.proofs.block.Goals as goal

pub returns : goal.returns
unfolding encode sealed fields bytes_of
returns c =
    let length-bytes = c.copy_from_slice.ensures.after ∙ c.to_le_bytes.ensures ∙ two-bytes c.args.length in
    let id-bytes = c.copy_from_slice-2.ensures.after ∙ c.to_le_bytes-2.ensures ∙ four-bytes c.args.id in
    let body = c.copy_from_slice-3.ensures.after in
    let check = rw (length-bytes, id-bytes, body) at c.crc8.ensures in
    let whole : length c.args.body ≤ 8 = omega arith in
    rw (length-bytes, id-bytes, body, check, append-nil c.args.body, take_all 8 c.args.body whole) refl
