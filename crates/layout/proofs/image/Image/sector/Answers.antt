-- `Image::sector` meets its contract: the place of block 0 is where the sector begins, and the sector's end lies within the image.
-- Assumes nothing.
use mathlib.Core.Path.{◌≡◌, sym, ap, ◌∙◌}
use Prim.Native.Nat.{ℕ, ◌+◌, ◌-◌, ◌*◌, ◌≤◌}
use native.Mathlib.Omega.{arith}
use lib.ListN.{length, take, drop}
use Rattle.rules.specs.Ground.{block_size, sector_of}
use Rattle.rules.proofs.Format.Ground.{sector_bytes, place-in-sector, sector-fits, sector-of-image}
use Rattle.layout.specs.Numbers.{sector_no, place_no}
use Rattle.layout.specs.Geometry.{blocks_of, sectors_of}
use Rattle.layout.proofs.image.Image.sector.Goals as goal
use Rattle.layout.proofs.image.Image.sector.Goals.{After-place-start}

begins : (c : After-place-start)
    → place_no c.place-start.result ≡ sector_no c.args.s * (blocks_of c.args.self.now.geometry * block_size)
begins c =
    c.place-start.ensures ∙ place-in-sector (blocks_of c.args.self.now.geometry) (sector_no c.args.s) 0 ∙ omega arith

ends : (c : After-place-start)
    → place_no c.place-start.result + blocks_of c.args.self.now.geometry * block_size ≤ length c.args.self.now.bytes.now
ends c =
    let g = c.args.self.now.geometry in
    omega (arith, begins c, c.args.self.now.backs.sized, sector-fits (blocks_of g) (sectors_of g) (sector_no c.args.s) c.requires)

pub overflow_add-end : goal.overflow_add-end
overflow_add-end c = omega (arith, ends (goal.at.overflow_add-end c).After-place-start)

pub slice_bounds-result-end : goal.slice_bounds-result-end
slice_bounds-result-end c = ends (goal.at.slice_bounds-result-end c).After-place-start

pub returns-clause-blocks : goal.returns-clause-blocks
returns-clause-blocks c =
    let image = c.args.self.now in
    let start = place_no c.place-start.result in
    let size = blocks_of image.geometry * block_size in
    let e : start + size - start ≡ size = omega arith in
    let read : take (start + size - start) (drop start image.bytes.now) ≡ sector_bytes (blocks_of image.geometry) image.bytes.now (sector_no c.args.s) =
    ap (λ (n : ℕ). take n (drop start image.bytes.now)) e
    ∙ ap (λ (n : ℕ). take size (drop n image.bytes.now)) (begins (goal.at.returns-clause-blocks c).After-place-start) in
    ap (sector_of (blocks_of image.geometry)) read
    ∙ sym (sector-of-image (blocks_of image.geometry) (sectors_of image.geometry) image.bytes.now (sector_no c.args.s) c.requires)
