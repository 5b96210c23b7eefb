-- Laws of "The ground": the blocks of an image are parts of its bytes, a store of 16 bytes is a store of that block, and
-- which sizes are legal.
-- Assumes nothing.
use mathlib.Core.Path.{◌≡◌, refl, sym, ap, ◌∙◌}
use mathlib.Core.Bool.{Bool, true, false, ◌&&◌, and-eq-true_iff}
use mathlib.Core.List.{List, [], ◌∷◌}
use Prim.Native.Nat.{ℕ, zero, suc, ◌+◌, ◌*◌, ◌/◌, ◌%◌, ◌≤◌, ◌<◌}
use native.Mathlib.Nat.{le_of_suc-le-suc, not-suc-le-zero, zero-mul, zero-add, add-zero, suc-mul, add-mul, mul_assoc, mul-le-mul_right, add_comm}
use native.Mathlib.Omega.{arith}
use borrow.Author.Tests.{eq-eqb, le-leb, eqb-true, leb-true}
use lib.ListN.{length, get_or, set, take, drop}
use lib.Seq.{sets, drop-drop, length-sets}
use lib.Dec.{leb, eqb}
use Rattle.rules.specs.Notation.{pieces}
use Rattle.rules.specs.Ground.{block_size, min_sector_size, max_sector_size, min_sectors, max_sectors, legal_sizes, Block, Sector, sector_of, image_of, block_at, store, place_of, block_bytes, store_bytes}
use Rattle.rules.proofs.Basics.Lists.{part-of-take, length_part, take-sets-le, drop-sets-le, take-sets, drop-sets-add, sets-all, get_d_map, map-set}

-- ---- a list in pieces

module _ {ℓ} {A : Type ℓ} where
  pub length-pieces : (n k : ℕ) (xs : List A) → length (pieces n k xs) ≡ n
  unfolding pieces
  length-pieces zero k xs = refl
  length-pieces (suc n) k xs = ap suc (length-pieces n k (drop k xs))

  -- piece i is the k elements from place i * k
  pub get_or-pieces : (n k : ℕ) (xs : List A) (i : ℕ) → i < n → get_or (pieces n k xs) i [] ≡ take k (drop (i * k) xs)
  unfolding pieces
  get_or-pieces zero k xs i h = absurd (not-suc-le-zero h)
  get_or-pieces (suc n) k xs zero h = rw zero-mul
  get_or-pieces (suc n) k xs (suc i) h =
      get_or-pieces n k (drop k xs) i (le_of_suc-le-suc h) ∙ rw (drop-drop, suc-mul, add_comm (i * k))

  -- a run of stores that stays within piece i changes that piece alone
  pub pieces-sets : (n k : ℕ) (xs : List A) (i j : ℕ) (vs : List A) → j + length vs ≤ k
      → pieces n k (sets xs (i * k + j) vs) ≡ set (pieces n k xs) i (sets (take k (drop (i * k) xs)) j vs)
  unfolding pieces
  pieces-sets zero k xs i j vs h = refl
  pieces-sets (suc n) k xs zero j vs h = rw (zero-mul, zero-add, take-sets, drop-sets-le)
  pieces-sets (suc n) k xs (suc i) j vs h =
      let e : suc i * k + j ≡ k + (i * k + j) = omega (arith, suc-mul i k) in
      let e' : suc i * k ≡ k + i * k = omega (arith, suc-mul i k) in
      rw (e, e', take-sets-le k xs (k + (i * k + j)) vs (omega arith), drop-sets-add, ← drop-drop)
      (ap (λ (r : List (List A)). take k xs ∷ r) (pieces-sets n k (drop k xs) i j vs h))

-- ---- the bytes of an image and its blocks

-- the bytes of sector s
abbrev pub sector_bytes : (B : ℕ) → List ℕ → (s : ℕ) → List ℕ
sector_bytes B bytes s = take (B * block_size) (drop (s * (B * block_size)) bytes)

pub sector-of-image : (B S : ℕ) (bytes : List ℕ) (s : ℕ) → s < S → get_or (image_of B S bytes) s [] ≡ sector_of B (sector_bytes B bytes s)
unfolding image_of
sector-of-image B S bytes s hs =
    get_d_map (sector_of B) (pieces S (B * block_size) bytes) s [] [] (omega (arith, length-pieces S (B * block_size) bytes))
    ∙ ap (sector_of B) (get_or-pieces S (B * block_size) bytes s hs)

-- the place of block b of sector s, counted from the sector's own place
pub place-in-sector : (B s b : ℕ) → place_of B s b ≡ s * (B * block_size) + b * block_size
unfolding place_of
place-in-sector B s b = rw (add-mul, mul_assoc)

-- the bytes of block b are those within its sector's
pub block-of-sector : (B : ℕ) (bytes : List ℕ) (s b : ℕ) → b < B
    → take block_size (drop (b * block_size) (sector_bytes B bytes s)) ≡ block_bytes B bytes s b
unfolding block_bytes
block-of-sector B bytes s b hb =
    rw (place-in-sector, ← drop-drop)
    (part-of-take block_size (b * block_size) (B * block_size) (drop (s * (B * block_size)) bytes) (omega arith))

-- reading: block b of sector s is its 16 bytes
pub read-block : (B S : ℕ) (bytes : List ℕ) (s b : ℕ) → s < S → b < B → block_at (image_of B S bytes) s b ≡ block_bytes B bytes s b
unfolding block_at sector_of
read-block B S bytes s b hs hb =
    rw (sector-of-image B S bytes s hs, get_or-pieces B block_size (sector_bytes B bytes s) b hb) (block-of-sector B bytes s b hb)

-- a sector ends within the image
pub sector-fits : (B S s : ℕ) → s < S → s * (B * block_size) + B * block_size ≤ S * (B * block_size)
sector-fits B S s hs = rw (← suc-mul s (B * block_size)) (mul-le-mul_right (B * block_size) hs)

pub length-sector-bytes : (B S : ℕ) (bytes : List ℕ) (s : ℕ) → s < S → length bytes ≡ S * (B * block_size)
    → length (sector_bytes B bytes s) ≡ B * block_size
length-sector-bytes B S bytes s hs sized =
    length_part (B * block_size) (s * (B * block_size)) bytes (omega (arith, sector-fits B S s hs))

module _ (B S : ℕ) (bytes : List ℕ) (s b : ℕ) (hs : s < S) (hb : b < B) (sized : length bytes ≡ S * (B * block_size)) where
  -- a block ends within the image
  pub place-fits : place_of B s b + block_size ≤ length bytes
  place-fits = rw place-in-sector (omega (arith, sector-fits B S s hs))

  pub length-block-bytes : length (block_bytes B bytes s b) ≡ block_size
  unfolding block_bytes
  length-block-bytes = length_part block_size (place_of B s b) bytes place-fits

  -- a block stored among the bytes of its sector
  store-in-sector : (block : Block) → length block ≡ block_size
      → sector_of B (sets (sector_bytes B bytes s) (b * block_size) block) ≡ set (sector_of B (sector_bytes B bytes s)) b block
  unfolding sector_of
  store-in-sector block whole =
      let sector = sector_bytes B bytes s in
      let old = take block_size (drop (b * block_size) sector) in
      let same : length block ≡ length old = whole ∙ sym length-block-bytes ∙ ap length (sym (block-of-sector B bytes s b hb)) in
      ap (λ (i : ℕ). pieces B block_size (sets sector i block)) (sym (add-zero (b * block_size)))
      ∙ pieces-sets B block_size sector b 0 block (omega arith)
      ∙ ap (set (pieces B block_size sector) b) (sets-all old block same)

  -- storing: 16 bytes stored at a block's place are a store of that block
  pub store-block : (block : Block) → length block ≡ block_size
      → image_of B S (store_bytes B bytes s b block) ≡ store (image_of B S bytes) s b block
  unfolding image_of store_bytes store
  store-block block whole =
      let other : Sector → Sector = λ blocks. set blocks b block in
      rw (place-in-sector, pieces-sets S (B * block_size) bytes s (b * block_size) block (omega arith), map-set)
      (ap (set (image_of B S bytes) s) (store-in-sector block whole ∙ ap other (sym (sector-of-image B S bytes s hs))))

-- a store keeps the image's length
pub length-store-bytes : (B : ℕ) (bytes : List ℕ) (s b : ℕ) (block : Block) → length (store_bytes B bytes s b block) ≡ length bytes
unfolding store_bytes
length-store-bytes B bytes s b block = length-sets bytes (place_of B s b) block

-- ---- legal sizes

-- What `legal_sizes` tests, as facts.
pub record IsLegal (size count len : ℕ) : Type 0 where
  pub multiple : size % block_size ≡ 0
  pub size_from : min_sector_size ≤ size
  pub size_to : size ≤ max_sector_size
  pub count_from : min_sectors ≤ count
  pub count_to : count ≤ max_sectors
  pub exact : len ≡ count * size

pub legal-true : (size count len : ℕ) → IsLegal size count len → legal_sizes size count len ≡ true
unfolding legal_sizes
legal-true size count len l =
    simp (eq-eqb _ _ l.multiple, le-leb _ _ l.size_from, le-leb _ _ l.size_to, le-leb _ _ l.count_from, le-leb _ _ l.count_to, eq-eqb _ _ l.exact)

pub legal-facts : (size count len : ℕ) → legal_sizes size count len ≡ true → IsLegal size count len
unfolding legal_sizes
legal-facts size count len holds =
    let a = eqb (size % block_size) 0 in
    let b = leb min_sector_size size in
    let c = leb size max_sector_size in
    let d = leb min_sectors count in
    let e = leb count max_sectors in
    let s5 = (and-eq-true_iff (a && b && c && d && e) (eqb len (count * size))).0 holds in
    let s4 = (and-eq-true_iff (a && b && c && d) e).0 s5.0 in
    let s3 = (and-eq-true_iff (a && b && c) d).0 s4.0 in
    let s2 = (and-eq-true_iff (a && b) c).0 s3.0 in
    let s1 = (and-eq-true_iff a b).0 s2.0 in
    record {
      multiple = eqb-true _ _ s1.0;
      size_from = leb-true _ _ s1.1;
      size_to = leb-true _ _ s2.1;
      count_from = leb-true _ _ s3.1;
      count_to = leb-true _ _ s4.1;
      exact = eqb-true _ _ s5.1;
    }

pub legal-false : (size count len : ℕ) → (IsLegal size count len → ⊥) → legal_sizes size count len ≡ false
legal-false size count len n = go (legal_sizes size count len) refl
  where
    go : (t : Bool) → legal_sizes size count len ≡ t → legal_sizes size count len ≡ false
    go true e = absurd (n (legal-facts size count len e))
    go false e = e

-- What legal sizes give: B from 8 to 4,096, S from 2 to 64, and the image's length in blocks.
pub record Bounds (size count len : ℕ) : Type 0 where
  pub blocks_from : 8 ≤ size / block_size
  pub blocks_to : size / block_size ≤ 4096
  pub sectors_from : min_sectors ≤ count
  pub sectors_to : count ≤ max_sectors
  pub exact : len ≡ count * (size / block_size * block_size)

pub legal-bounds : (size count len : ℕ) → legal_sizes size count len ≡ true → Bounds size count len
legal-bounds size count len holds =
    let l = legal-facts size count len holds in
    let whole : size ≡ size / block_size * block_size = omega (arith, l.multiple) in
    record {
      blocks_from = omega (arith, l.size_from);
      blocks_to = omega (arith, l.size_to);
      sectors_from = l.count_from;
      sectors_to = l.count_to;
      exact = l.exact ∙ ap (λ (n : ℕ). count * n) whole;
    }

-- ---- bench sheet, P row 13: sizes that are refused, whatever the length of the image

pub size-112 : (count len : ℕ) → legal_sizes 112 count len ≡ false
size-112 count len = legal-false 112 count len (λ l. omega arith)

pub size-136 : (count len : ℕ) → legal_sizes 136 count len ≡ false
size-136 count len = legal-false 136 count len (λ l. omega arith)

pub size-65552 : (count len : ℕ) → legal_sizes 65552 count len ≡ false
size-65552 count len = legal-false 65552 count len (λ l. omega arith)

pub one-sector : (size len : ℕ) → legal_sizes size 1 len ≡ false
one-sector size len = legal-false size 1 len (λ l. omega arith)

pub sixty-five-sectors : (size len : ℕ) → legal_sizes size 65 len ≡ false
sixty-five-sectors size len = legal-false size 65 len (λ l. omega arith)
