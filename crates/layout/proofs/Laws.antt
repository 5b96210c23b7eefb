-- What a geometry gives its callers: legal sizes back an image of their length, and a store keeps it so.
-- Assumes nothing.
use Rattle.std.specs.Prelude.{Some, None}
use Rattle.std.proofs.lemmas.Bool.{eqb-true, eq-eqb, not-false, not-true, true≢false}
use Rattle.std.proofs.lemmas.Option.{cond_some, none-some}
use mathlib.Core.Path.{◌≡◌, sym, ap, ◌∙◌}
use mathlib.Core.Bool.{true, false, not}
use mathlib.Core.List.{List}
use Prim.Native.Nat.{ℕ, ◌+◌, ◌*◌, ◌/◌, ◌<◌}
use native.Mathlib.Nat.{mul-le-mul}
use native.Mathlib.Omega.{arith}
use lib.ListN.{length}
use Rattle.std.specs.Prelude.{eqb}
use Rattle.rules.specs.Ground.{block_size, legal_sizes, image_of, block_at, place_of, store_bytes}
use Rattle.rules.proofs.Basics.Notation.{took-else}
use Rattle.rules.proofs.Format.Ground.{IsLegal, legal-true, legal-false, legal-bounds, length-store-bytes, read-block, length-block-bytes}
use Rattle.layout.specs.declared.Sector.{Sector}
use Rattle.layout.specs.declared.Geometry.{Geometry}
use Rattle.layout.specs.Numbers.{sector_no}
use Rattle.layout.specs.Geometry.{blocks_of, sectors_of, sizes_in, sizes_of, Backs}

-- what `!=` of two sectors tells of their numbers
pub same-sector : (s t : Sector) → not (eqb (sector_no s) (sector_no t)) ≡ false → sector_no s ≡ sector_no t
same-sector s t e = eqb-true _ _ (not-false _ e)

pub other-sector : (s t : Sector) → not (eqb (sector_no s) (sector_no t)) ≡ true → sector_no s ≡ sector_no t → ⊥
other-sector s t e same = true≢false (sym (eq-eqb _ _ same) ∙ not-true _ e)

-- a geometry has few blocks, so that no place wraps
pub few-blocks : (g : Geometry) (s b : ℕ) → s < sectors_of g → b < blocks_of g → s * blocks_of g + b < 262144
few-blocks g s b hs hb =
    let k = g.sound in
    omega (arith, k.blocks_to, mul-le-mul {n₁ = s} {m₁ = blocks_of g} {n₂ = 63} {m₂ = 4096} (omega (arith, k.sectors_to)) k.blocks_to)

pub place-small : (g : Geometry) (s b : ℕ) → s < sectors_of g → b < blocks_of g → place_of (blocks_of g) s b < 4194304
unfolding place_of
place-small g s b hs hb = omega (arith, few-blocks g s b hs hb)

-- a block of an image is a whole block
pub block-sized : (g : Geometry) (image : List ℕ) (s b : ℕ) → Backs g image → s < sectors_of g → b < blocks_of g
    → length (block_at (image_of (blocks_of g) (sectors_of g) image) s b) ≡ block_size
block-sized g image s b k here inside =
    ap length (read-block (blocks_of g) (sectors_of g) image s b here inside)
    ∙ length-block-bytes (blocks_of g) (sectors_of g) image s b here inside k.sized

-- ---- the answer by the facts

pub sizes-legal : (size count len : ℕ) → IsLegal size count len → Some (size / block_size, count) ≡ sizes_of size count len
unfolding sizes_of
sizes-legal size count len l = rw (legal-true size count len l)

pub sizes-illegal : (size count len : ℕ) → (IsLegal size count len → ⊥) → None ≡ sizes_of size count len
unfolding sizes_of
sizes-illegal size count len n = rw (legal-false size count len n)

-- ---- the facts by the answer

-- What is known of a geometry that three numbers gave.
pub record From (size count len : ℕ) (g : Geometry) : Type 0 where
  pub legal : legal_sizes size count len ≡ true
  pub blocks : blocks_of g ≡ size / block_size
  pub sectors : sectors_of g ≡ count

pub from-sizes : (size count len : ℕ) (g : Geometry) → Some (sizes_in g) ≡ sizes_of size count len → From size count len g
unfolding sizes_of
from-sizes size count len g e =
    let t = cond_some (legal_sizes size count len) _ (sizes_in g) (sym e) in
    record { legal = t.0; blocks = ap (λ (p : ℕ × ℕ). p.0) (sym t.1); sectors = ap (λ (p : ℕ × ℕ). p.1) (sym t.1) }

pub not-sizes : (size count len : ℕ) → None ≡ sizes_of size count len → legal_sizes size count len ≡ false
unfolding sizes_of
not-sizes size count len e = (took-else (legal_sizes size count len) _ None (λ t. none-some _ (sym t)) (sym e)).0

-- legal sizes back every image of their length
pub legal-backs : (size count len : ℕ) (g : Geometry) → Some (sizes_in g) ≡ sizes_of size count len → (bytes : List ℕ) → length bytes ≡ len → Backs g bytes
legal-backs size count len g e bytes sized =
    let f = from-sizes size count len g e in
    record {
      sized =
          sized
          ∙ (legal-bounds size count len f.legal).exact
          ∙ ap (λ (b : ℕ). count * (b * block_size)) (sym f.blocks)
          ∙ ap (λ (s : ℕ). s * (blocks_of g * block_size)) (sym f.sectors);
    }

-- a store keeps it so
pub store-backs : (g : Geometry) (bytes : List ℕ) (s b : ℕ) (block : List ℕ) → Backs g bytes → Backs g (store_bytes (blocks_of g) bytes s b block)
store-backs g bytes s b block k = record { sized = length-store-bytes (blocks_of g) bytes s b block ∙ k.sized }
