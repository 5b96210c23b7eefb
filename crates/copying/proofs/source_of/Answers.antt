-- `source_of`: the fields of the block, the offset in blocks where there is one.
-- Assumes nothing.
use mathlib.Core.Path.{◌≡◌, sym, ap, ◌∙◌}
use mathlib.Core.List.{List}
use Prim.Native.Nat.{ℕ, ◌/◌}
use native.Mathlib.Omega.{arith}
use borrow.Author.Tests.{le-leb, lt-leb}
use Rattle.rules.specs.Ground.{block_size}
use Rattle.rules.specs.Entry.{length_of}
use Rattle.copying.specs.Copy.{first_of}
use Rattle.copying.proofs.source_of.Goals as goal
use Rattle.copying.proofs.source_of.Goals.{then-from-le-SMALL, else-from-le-SMALL}

pub returns : goal.returns
unfolding first_of
returns c =
    let block : List ℕ = c.args.block.now in
    let length : c.from.result ≡ length_of block = c.from.ensures ∙ c.length_in-length.ensures in
    let first : c.if-from-le-SMALL.first ≡ first_of block =
    elim c.if-from-le-SMALL.branch [
      | then-from-le-SMALL w ↦ w.first-is ∙ sym (simp (le-leb (length_of block) 8 (omega (arith, length, w.if-from-le-SMALL.true))))
      | else-from-le-SMALL w ↦
          w.first-is ∙ ap (λ (n : ℕ). n / block_size) w.offset_in.ensures ∙ sym (simp (lt-leb (length_of block) 8 (omega (arith, length, w.if-from-le-SMALL.false))))
    ] in
    λ i. record { id = c.id_in.ensures i; length = c.length_in-length.ensures i; first = first i }
