-- What a format leaves: every block has its final bytes, whatever it held before.
use Rattle.std.specs.Prelude.{cond}
use mathlib.Core.Path.{◌≡◌, refl, sym, ap, ◌∙◌}
use mathlib.Core.Bool.{Bool, true, false, ◌&&◌}
use mathlib.Core.List.{List, [], ◌∷◌, ◌++◌}
use Prim.Native.Nat.{ℕ, zero, suc, ◌+◌, ◌*◌, ◌-◌, ◌<◌, ◌≤◌}
use native.Mathlib.Nat.{zero-mul, suc-mul, add-zero}
use native.Mathlib.Omega.{arith}
use lib.Dec.{ltb, eqb}
use borrow.Author.Tests.{ltb-true, eqb-true}
use lib.ListN.{length, get_or, set, length-set, length-map, length-append}
use lib.Seq.{sets, set-get_or, set-set, get_or-set_same, get_or-set_other, lt-length-set}
use Rattle.rules.specs.Notation.{all, pieces, Each, empty, each}
use Rattle.rules.specs.Ground.{Block, Sector, Image, block_size, sector_of, image_of, store, blank_block}
use Rattle.rules.specs.Entry.{lead_block, close_block, done_block}
use Rattle.rules.specs.Stores.{Store, Kind, apply, blank_store, final_store, final_blocks, final_sectors, format}
use Rattle.rules.proofs.Terms.{IsBlock, IsInside}
use Rattle.rules.proofs.Basics.Notation.{both_true}
use Rattle.rules.proofs.Basics.Lists.{sets-all}
use Rattle.rules.proofs.Format.Ground.{length-pieces, sector-of-image}
use Rattle.rules.proofs.Crash.Cuts.{apply-append}
use Rattle.rules.proofs.Blocks.OnBytes.{each-true}
use Rattle.rules.proofs.Computing.{computing}
use Rattle.rules.proofs.Basics.Parts.{each_append}

-- The final bytes of so many blocks of sector s upward from b, and the blocks of so many sectors from s on.
unfoldable pub final_bytes : (B s b count : ℕ) → List Block
final_bytes B s b zero = []
final_bytes B s b (suc count) = (final_store B s b).bytes ∷ final_bytes B s (suc b) count

unfoldable pub final_image : (B s count : ℕ) → Image
final_image B s zero = []
final_image B s (suc count) = final_bytes B s 0 B ∷ final_image B (suc s) count

pub length-final-bytes : (B s b count : ℕ) → length (final_bytes B s b count) ≡ count
unfolding final_bytes
length-final-bytes B s b zero = refl
length-final-bytes B s b (suc count) = ap suc (length-final-bytes B s (suc b) count)

pub length-final-image : (B s count : ℕ) → length (final_image B s count) ≡ count
unfolding final_image
length-final-image B s zero = refl
length-final-image B s (suc count) = ap suc (length-final-image B (suc s) count)

-- block i of a sector has its own final bytes
pub final-at : (B s b count i : ℕ) → i < count → get_or (final_bytes B s b count) i [] ≡ (final_store B s (b + i)).bytes
unfolding final_bytes
final-at B s b zero i h = absurd (omega arith)
final-at B s b (suc count) zero h = ap (λ (n : ℕ). (final_store B s n).bytes) (sym (add-zero b))
final-at B s b (suc count) (suc i) h =
    final-at B s (suc b) count i (omega arith) ∙ ap (λ (n : ℕ). (final_store B s n).bytes) (omega arith)

-- one block more
final-snoc : (B s b count : ℕ) → final_bytes B s b (suc count) ≡ final_bytes B s b count ++ ((final_store B s (b + count)).bytes ∷ [])
unfolding final_bytes
final-snoc B s b zero = ap (λ (n : ℕ). (final_store B s n).bytes ∷ []) (sym (add-zero b))
final-snoc B s b (suc count) =
    ap (λ (l : List Block). (final_store B s b).bytes ∷ l)
    (final-snoc B s (suc b) count
    ∙ ap (λ (n : ℕ). final_bytes B s (suc b) count ++ ((final_store B s n).bytes ∷ [])) (omega arith))

-- Where a final store goes, and that it is a block.
record Final (s b : ℕ) (x : Store) : Type 0 where
  sector : x.sector ≡ s
  block : x.block ≡ b
  bytes : IsBlock x.bytes

if-either {ℓ κ} : {A : Type ℓ} (P : A → Type κ) (test : Bool) (x y : A) → P x → P y → P (cond test x y)
if-either P true x y p q = p
if-either P false x y p q = q

-- a test that bytes are a block
is_block : Block → Bool
is_block block = eqb (length block) block_size && all (λ b. ltb b 256) block

is_block_lem : (block : Block) → is_block block ≡ true → IsBlock block
unfolding is_block
is_block_lem block e =
    let (sized, bytes) = both_true _ (all (λ b. ltb b 256) block) e in
    record { sized = eqb-true _ _ sized; bytes = each-true (λ b. ltb b 256) (λ b h. ltb-true b 256 h) block bytes }

-- the four blocks that a format stores
final-blocks : IsBlock (lead_block 1) × IsBlock (close_block 1) × IsBlock (done_block 1) × IsBlock blank_block
unfolding computing is_block
final-blocks = (is_block_lem _ refl, is_block_lem _ refl, is_block_lem _ refl, is_block_lem _ refl)

final-store : (B s b : ℕ) → Final s b (final_store B s b)
unfolding final_store blank_store
final-store B s b =
    if-either (Final s b) _ _ _ (made Kind.lead final-blocks.0)
    (if-either (Final s b) _ _ _ (made Kind.close final-blocks.1)
    (if-either (Final s b) _ _ _ (made Kind.done final-blocks.2) (made Kind.blank final-blocks.3)))
  where
    made : (kind : Kind) {bytes : Block} → IsBlock bytes → Final s b (record { sector = s; block = b; kind = kind; bytes = bytes })
    made kind is = record { sector = refl; block = refl; bytes = is }

-- Every store of a format lies within the image.
module _ (B S : ℕ) where
  final-inside : (s b : ℕ) → s < S → b < B → IsInside B S (final_store B s b)
  final-inside s b hs hb =
      let f = final-store B s b in
      record { sector = rw f.sector hs; block = rw f.block hb; bytes = f.bytes }

  blocks-inside : (s b count : ℕ) → s < S → b + count ≤ B → Each (IsInside B S) (final_blocks B s b count)
  unfolding final_blocks
  blocks-inside s b zero hs hb = empty
  blocks-inside s b (suc count) hs hb = each (final-inside s b hs (omega arith)) (blocks-inside s (suc b) count hs (omega arith))

  sectors-inside : (s count : ℕ) → s + count ≤ S → Each (IsInside B S) (final_sectors B s count)
  unfolding final_sectors
  sectors-inside s zero h = empty
  sectors-inside s (suc count) h = each_append (blocks-inside s 0 B (omega arith) (omega arith)) (sectors-inside (suc s) count (omega arith))

  pub format-inside : 1 ≤ B → 1 ≤ S → Each (IsInside B S) (format B S)
  unfolding format blank_store
  format-inside hB hS =
      let below : B - 1 < B = omega arith in
      each (record { sector = hS; block = below; bytes = final-blocks.3 })
      (each_append (each_append (blocks-inside 0 0 (B - 1) hS (omega arith)) (sectors-inside 1 (S - 1) (omega arith)))
      (each (final-inside 0 (B - 1) hS (omega arith)) empty))

-- "1 + S x B stores"
length-blocks : (B s b count : ℕ) → length (final_blocks B s b count) ≡ count
unfolding final_blocks
length-blocks B s b zero = refl
length-blocks B s b (suc count) = ap suc (length-blocks B s (suc b) count)

length-sectors : (B s count : ℕ) → length (final_sectors B s count) ≡ count * B
unfolding final_sectors
length-sectors B s zero = sym (zero-mul B)
length-sectors B s (suc count) =
    simp (length-append, length-blocks, length-sectors B (suc s) count) (omega (arith, suc-mul count B))

pub length-format : (B S : ℕ) → 1 ≤ B → 1 ≤ S → length (format B S) ≡ 1 + S * B
unfolding format
length-format B zero hB hS = absurd (omega arith)
length-format B (suc S) hB hS =
    let behind : suc S - 1 ≡ S = omega arith in
    let others : length (final_sectors B 1 (suc S - 1)) ≡ S * B = length-sectors B 1 (suc S - 1) ∙ ap (λ (n : ℕ). n * B) behind in
    simp (length-append, length-blocks, others) (omega (arith, suc-mul S B))

-- ---- what the stores leave

apply-blocks : (B s b count : ℕ) (im : Image) → s < length im
    → apply (final_blocks B s b count) im ≡ set im s (sets (get_or im s []) b (final_bytes B s b count))
unfolding apply final_blocks final_bytes store
apply-blocks B s b zero im h = sym (set-get_or im s [])
apply-blocks B s b (suc count) im h =
    let x = final_store B s b in
    let left : Image = set im s (set (get_or im s []) b x.bytes) in
    let f = final-store B s b in
    rw (f.sector, f.block)
    (apply-blocks B s (suc b) count left (lt-length-set im s _ h)
    ∙ ap (λ (sector : Sector). set left s (sets sector (suc b) (final_bytes B s (suc b) count))) (get_or-set_same im s _ [] h)
    ∙ set-set im s _ _)

apply-sectors : (B s count : ℕ) (im : Image) → s + count ≡ length im → ((i : ℕ) → s ≤ i → i < length im → length (get_or im i []) ≡ B)
    → apply (final_sectors B s count) im ≡ sets im s (final_image B s count)
unfolding apply final_sectors final_image
apply-sectors B s zero im sized sectors = refl
apply-sectors B s (suc count) im sized sectors =
    let final : Sector = final_bytes B s 0 B in
    let here : s < length im = omega arith in
    let whole : sets (get_or im s []) 0 final ≡ final = sets-all (get_or im s []) final (length-final-bytes B s 0 B ∙ sym (sectors s (omega arith) here)) in
    apply-append (final_blocks B s 0 B) (final_sectors B (suc s) count) im
    ∙ ap (apply (final_sectors B (suc s) count)) (apply-blocks B s 0 B im here ∙ ap (set im s) whole)
    ∙ apply-sectors B (suc s) count (set im s final) (simp length-set (omega arith)) rest
  where
    rest : (i : ℕ) → suc s ≤ i → i < length (set im s (final_bytes B s 0 B)) → length (get_or (set im s (final_bytes B s 0 B)) i []) ≡ B
    rest i past within =
        ap length (get_or-set_other im s i (final_bytes B s 0 B) [] (omega arith)) ∙ sectors i (omega arith) (simp length-set at within)

-- a run of stores, and one more
sets-snoc {ℓ} : {A : Type ℓ} (l : List A) (i : ℕ) (vs : List A) (v : A) → sets l i (vs ++ (v ∷ [])) ≡ set (sets l i vs) (i + length vs) v
sets-snoc l i [] v = ap (λ (n : ℕ). set l n v) (sym (add-zero i))
sets-snoc l i (x ∷ xs) v = sets-snoc (set l i x) (suc i) xs v ∙ ap (λ (n : ℕ). set (sets (set l i x) (suc i) xs) n v) (omega arith)

-- a run of stores behind the first element
sets-cons {ℓ} : {A : Type ℓ} (x : A) (l : List A) (i : ℕ) (vs : List A) → sets (x ∷ l) (suc i) vs ≡ x ∷ sets l i vs
sets-cons x l i [] = refl
sets-cons x l i (v ∷ vs) = sets-cons x (set l i v) (suc i) vs

-- the first sector: all blocks but the lead, and last the lead
first-sector : (B : ℕ) (sector : Sector) → 1 ≤ B → length sector ≡ B
    → set (sets sector 0 (final_bytes B 0 0 (B - 1))) (B - 1) (final_store B 0 (B - 1)).bytes ≡ final_bytes B 0 0 B
first-sector B sector h sized =
    let front : List Block = final_bytes B 0 0 (B - 1) in
    let last : Block = (final_store B 0 (B - 1)).bytes in
    let n : length front ≡ B - 1 = length-final-bytes B 0 0 (B - 1) in
    let up : suc (B - 1) ≡ B = omega arith in
    let here : B - 1 ≡ 0 + length front = omega arith in
    let at_last : B - 1 ≡ 0 + (B - 1) = omega arith in
    let whole : front ++ (last ∷ []) ≡ final_bytes B 0 0 B =
    ap (λ (k : ℕ). front ++ ((final_store B 0 k).bytes ∷ [])) at_last ∙ sym (final-snoc B 0 0 (B - 1)) ∙ ap (final_bytes B 0 0) up in
    ap (λ (k : ℕ). set (sets sector 0 front) k last) here
    ∙ sym (sets-snoc sector 0 front last)
    ∙ ap (sets sector 0) whole
    ∙ sets-all sector (final_bytes B 0 0 B) (length-final-bytes B 0 0 B ∙ sym sized)

-- A format of an image of any blocks leaves the final ones.
pub apply-format : (B S : ℕ) (im : Image) → 1 ≤ B → length im ≡ suc S → ((i : ℕ) → i < length im → length (get_or im i []) ≡ B)
    → apply (format B (suc S)) im ≡ final_image B 0 (suc S)
unfolding apply format final_image blank_store store
apply-format B S [] h sized sectors = absurd (omega arith)
apply-format B S (x ∷ xs) h sized sectors =
    let behind : suc S - 1 ≡ S = omega arith in
    let first : Sector = set x (B - 1) blank_block in
    let front : Sector = sets first 0 (final_bytes B 0 0 (B - 1)) in
    let others : Image = final_image B 1 S in
    let f = final-store B 0 (B - 1) in
    rw behind
    (apply-append (final_blocks B 0 0 (B - 1) ++ final_sectors B 1 S) (final_store B 0 (B - 1) ∷ []) (first ∷ xs)
    ∙ ap (apply (final_store B 0 (B - 1) ∷ []))
    (apply-append (final_blocks B 0 0 (B - 1)) (final_sectors B 1 S) (first ∷ xs)
    ∙ ap (apply (final_sectors B 1 S)) (apply-blocks B 0 0 (B - 1) (first ∷ xs) (omega arith))
    ∙ apply-sectors B 1 S (front ∷ xs) (omega arith) rest
    ∙ sets-cons front xs 0 others
    ∙ ap (λ (l : Image). front ∷ l) (sets-all xs others (length-final-image B 1 S ∙ (omega arith))))
    ∙ rw (f.sector, f.block)
    (ap (λ (l : Sector). l ∷ others) (first-sector B first h (length-set x (B - 1) blank_block ∙ sectors 0 (omega arith)))))
  where
    rest : (i : ℕ) → 1 ≤ i → i < length (sets (set x (B - 1) blank_block) 0 (final_bytes B 0 0 (B - 1)) ∷ xs)
        → length (get_or (sets (set x (B - 1) blank_block) 0 (final_bytes B 0 0 (B - 1)) ∷ xs) i []) ≡ B
    rest zero past within = absurd (omega arith)
    rest (suc i) past within = sectors (suc i) within

-- The blocks of any bytes are an image of these sizes, so that this holds of them.
module _ (B S : ℕ) (bytes : List ℕ) where
  pub length-image : length (image_of B S bytes) ≡ S
  unfolding image_of
  length-image = length-map (pieces S (B * block_size) bytes) (sector_of B) ∙ length-pieces S (B * block_size) bytes

  pub length-sector : (s : ℕ) → s < S → length (get_or (image_of B S bytes) s []) ≡ B
  unfolding sector_of
  length-sector s h = ap length (sector-of-image B S bytes s h) ∙ length-pieces B block_size _

pub format-bytes : (B S : ℕ) (bytes : List ℕ) → 1 ≤ B → 1 ≤ S → apply (format B S) (image_of B S bytes) ≡ final_image B 0 S
format-bytes B zero bytes hB hS = absurd (omega arith)
format-bytes B (suc S) bytes hB hS =
    let sized = length-image B (suc S) bytes in
    apply-format B S (image_of B (suc S) bytes) hB sized (λ i h. length-sector B (suc S) bytes i (omega (arith, sized)))
