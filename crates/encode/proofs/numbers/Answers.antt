-- `numbers`: the bytes of the first number, then those of the second.
-- Assumes nothing.
use mathlib.Core.Path.{refl, ◌∙◌}
use Rattle.rules.specs.Notation.{bytes_of}
use Rattle.rules.specs.Entry.{numbers}
use Rattle.encode.proofs.Bytes.{four-bytes}
use Rattle.encode.proofs.numbers.Goals as goal

pub returns : goal.returns
unfolding numbers bytes_of
returns c =
    let first = c.copy_from_slice.ensures.after ∙ c.to_le_bytes.ensures ∙ four-bytes c.args.a in
    let second = c.copy_from_slice-2.ensures.after ∙ c.to_le_bytes-2.ensures ∙ four-bytes c.args.b in
    rw (first, second) refl
