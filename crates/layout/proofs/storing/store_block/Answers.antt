-- `layout::store_block` meets its contract: the part of the image at the block's place becomes the new bytes.
-- Assumes nothing.
use mathlib.Core.Path.{◌≡◌, refl, sym, ap, ◌∙◌}
use mathlib.Core.List.{List}
use Prim.Native.Nat.{ℕ, ◌+◌, ◌-◌, ◌≤◌}
use native.Mathlib.Omega.{arith}
use lib.ListN.{length}
use lib.Seq.{sets}
use Rattle.std.proofs.lemmas.Slice.{put_mid-paste}
use Rattle.rules.specs.Ground.{block_size, store_bytes}
use Rattle.rules.proofs.Basics.Lists.{sets-paste}
use Rattle.rules.proofs.Format.Ground.{place-fits}
use Rattle.layout.specs.Numbers.{sector_no, block_no, place_no}
use Rattle.layout.specs.Geometry.{blocks_of, sectors_of}
use Rattle.layout.proofs.storing.store_block.Goals as goal
use Rattle.layout.proofs.storing.store_block.Goals.{After-place-start}

-- the block's place is within the image
within : (c : After-place-start) → place_no c.place-start.result + block_size ≤ length c.args.image.now
within c =
    omega (
      arith,
      c.place-start.ensures,
      place-fits (blocks_of c.args.g) (sectors_of c.args.g) c.args.image.now (sector_no c.args.s) (block_no c.args.b)
          c.requires.s_bound c.requires.b_bound c.requires.backs.sized,
    )

pub overflow_add-end : goal.overflow_add-end
overflow_add-end c = omega (arith, within (goal.at.overflow_add-end c).After-place-start)

pub slice_bounds-copy_from_slice-end : goal.slice_bounds-copy_from_slice-end
slice_bounds-copy_from_slice-end c = within (goal.at.slice_bounds-copy_from_slice-end c).After-place-start

pub returns-clause-stored : goal.returns-clause-stored
unfolding store_bytes
returns-clause-stored c =
    let image : List ℕ = c.args.image.now in
    let bytes : List ℕ = c.args.bytes in
    let start = place_no c.place-start.result in
    let inside = within (goal.at.returns-clause-stored c).After-place-start in
    let whole : length bytes ≡ start + block_size - start = omega arith in
    put_mid-paste start (start + block_size - start) image _ bytes (length bytes) c.copy_from_slice.ensures.after whole refl
    ∙ sym (sets-paste image start bytes (omega (arith, inside)))
    ∙ ap (λ (at : ℕ). sets image at bytes) c.place-start.ensures
