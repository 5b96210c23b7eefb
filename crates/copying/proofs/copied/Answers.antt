-- `copied`: by its length the value lies in the block, or its check stands behind the offset.
-- Assumes nothing.
use mathlib.Core.Path.{◌≡◌, sym, ap, ap₂, ◌∙◌}
use mathlib.Core.List.{List}
use Prim.Native.Nat.{ℕ, ◌≤◌, ◌<◌, ◌+◌, ◌-◌}
use native.Mathlib.Omega.{arith}
use lib.ListN.{take, drop}
use borrow.Author.Tests.{le-leb, lt-leb}
use Rattle.rules.specs.Entry.{length_of, small_value_block}
use Rattle.copying.specs.Copy.{copy_of}
use Rattle.copying.proofs.copied.Goals as goal

pub returns-then-small-le-SMALL : goal.returns-then-small-le-SMALL
unfolding copy_of
returns-then-small-le-SMALL c = let block : List ℕ = c.args.block.now in
    let few : length_of block ≤ 8 = omega (arith, c.if-small-le-SMALL.true) in
    let count : 8 + c.from-small.result - 8 ≡ length_of block = omega arith in
    c.small_value.ensures
    ∙ ap₂ (small_value_block _) c.id_in-id.ensures (ap (λ (n : ℕ). take n (drop 8 block)) count)
    ∙ sym (simp (le-leb (length_of block) 8 few))

pub returns : goal.returns
unfolding copy_of
returns c = let block : List ℕ = c.args.block.now in
    let many : 8 < length_of block = omega (arith, c.if-small-le-SMALL.false) in
    let whole = rw (c.id_in-id.ensures, c.length_in-length.ensures, c.crc32_in-check.ensures) at c.long_value.ensures in
    whole ∙ sym (simp (lt-leb (length_of block) 8 many))
