-- Calls on bytes are calls on blocks: what a list of stores leaves, and what a call is due and leaves.
use mathlib.Core.Path.{◌≡◌, refl, ap, ◌∙◌}
use mathlib.Core.Bool.{Bool, true, false}
use mathlib.Core.List.{List, [], ◌∷◌, ◌++◌}
use Prim.Native.Nat.{ℕ, ◌*◌, ◌/◌, ◌<◌, zero, suc, ◌+◌}
use lib.ListN.{length, take, drop, length-drop, length-map}
use Rattle.rules.specs.Notation.{all, Each, empty, each, pieces}
use Rattle.rules.specs.Ground.{Image, block_size, legal_sizes, image_of, store_bytes, sector_of}
use Rattle.rules.specs.Stores.{Store, apply, apply_bytes}
use Rattle.rules.specs.Calls.{Due, refuse, Refusal, geometry, made, at_sizes, mount_on, write_on, delete_on, mount_due, write_due, delete_due, leaves}
use Rattle.rules.specs.Demands.{Call, mount, write, delete, due}
use Rattle.rules.proofs.Terms.{IsInside, IsSector, IsImage}
use Rattle.rules.proofs.Basics.Notation.{both_true}
use Rattle.rules.proofs.Format.Ground.{store-block, length-store-bytes, legal-bounds, length-pieces}
use native.Mathlib.Nat.{suc-mul}
use native.Mathlib.Omega.{arith}
use lib.Seq.{length-take-le}
use Rattle.rules.proofs.Basics.Parts.{each_take, each-drop}
use Rattle.rules.proofs.Ring.Fits.{map_each}

-- ---- an image

-- whole pieces of lists that are so are so
pieces-so : {P : List ℕ → Type 0} (n k : ℕ) (bytes : List ℕ) → Each (λ b. b < 256) bytes → length bytes ≡ n * k
    → ((piece : List ℕ) → Each (λ b. b < 256) piece → length piece ≡ k → P piece) → Each P (pieces n k bytes)
unfolding pieces
pieces-so zero k bytes ok sized so = empty
pieces-so (suc n) k bytes ok sized so =
    let whole : length bytes ≡ n * k + k = sized ∙ suc-mul n k in
    each (so (take k bytes) (each_take k ok) (length-take-le k bytes (omega arith)))
    (pieces-so n k (drop k bytes) (each-drop k ok) (length-drop k bytes ∙ omega arith) so)

-- the blocks of an image of bytes
pub image-of-bytes : (B S : ℕ) (bytes : List ℕ) → Each (λ b. b < 256) bytes → length bytes ≡ S * (B * block_size) → IsImage B S (image_of B S bytes)
unfolding image_of sector_of
image-of-bytes B S bytes ok sized =
    record {
      sized = length-map (pieces S (B * block_size) bytes) (λ (piece : List ℕ). pieces B block_size piece) ∙ length-pieces S (B * block_size) bytes;
      sectors =
          map_each (IsSector B) (λ (piece : List ℕ). pieces B block_size piece) (pieces S (B * block_size) bytes)
          (pieces-so S (B * block_size) bytes ok sized
          (λ piece typed whole.
          record {
            sized = length-pieces B block_size piece;
            blocks = pieces-so B block_size piece typed whole (λ block bytes' full. record { sized = full; bytes = bytes' });
          }));
    }

-- ---- stores

pub length-stored : (B : ℕ) (ss : List Store) (bytes : List ℕ) → length (apply_bytes B ss bytes) ≡ length bytes
unfolding apply_bytes
length-stored B [] bytes = refl
length-stored B (s ∷ ss) bytes =
    length-stored B ss (store_bytes B bytes s.sector s.block s.bytes) ∙ length-store-bytes B bytes s.sector s.block s.bytes

pub stored-append : (B : ℕ) (xs ys : List Store) (bytes : List ℕ) → apply_bytes B (xs ++ ys) bytes ≡ apply_bytes B ys (apply_bytes B xs bytes)
unfolding apply_bytes
stored-append B [] ys bytes = refl
stored-append B (x ∷ xs) ys bytes = stored-append B xs ys _

-- Sixteen numbers stored at a block of the image: whether they are bytes does not matter here.
pub record Lies (B S : ℕ) (s : Store) : Type 0 where
  pub sector : s.sector < S
  pub block : s.block < B
  pub sized : length s.bytes ≡ block_size

pub stored : (B S : ℕ) (ss : List Store) (bytes : List ℕ) → Each (Lies B S) ss → length bytes ≡ S * (B * block_size)
    → image_of B S (apply_bytes B ss bytes) ≡ apply ss (image_of B S bytes)
unfolding apply_bytes apply
stored B S [] bytes inside sized = refl
stored B S (s ∷ ss) bytes (each i is) sized =
    let left : List ℕ = store_bytes B bytes s.sector s.block s.bytes in
    stored B S ss left is (length-store-bytes B bytes s.sector s.block s.bytes ∙ sized)
    ∙ ap (apply ss) (store-block B S bytes s.sector s.block i.sector i.block sized s.bytes i.sized)

pub inside-lie : {B S : ℕ} {ss : List Store} → Each (IsInside B S) ss → Each (Lies B S) ss
inside-lie empty = empty
inside-lie (each i is) = each (record { sector = i.sector; block = i.block; sized = i.bytes.sized }) (inside-lie is)

pub each-true {ℓ κ} : {A : Type ℓ} {P : A → Type κ} (test : A → Bool) → ((x : A) → test x ≡ true → P x) → (xs : List A) → all test xs ≡ true → Each P xs
unfolding all
each-true test holds [] e = empty
each-true test holds (x ∷ xs) e =
    let (here, rest) = both_true (test x) (all test xs) e in
    each (holds x here) (each-true test holds xs rest)

-- ---- a call

-- The same call on blocks.
unfoldable pub due_on : (B S : ℕ) → Image → Call → Due
due_on B S im (mount a) = mount_on B S im
due_on B S im (write id value a) = write_on B S im id value
due_on B S im (delete id a) = delete_on B S im id

-- An image of legal sizes, and its blocks.
pub record HasBlocks (size count : ℕ) (image : List ℕ) (im : Image) : Type 0 where
  pub legal : legal_sizes size count (length image) ≡ true
  pub blocks : image_of (size / block_size) count image ≡ im

-- other sizes are refused
pub call-off {ℓ} : {A : Type ℓ} (size count : ℕ) (image : List ℕ) → legal_sizes size count (length image) ≡ false
    → (refusal : Refusal → A) (call : (B S : ℕ) → Image → A) → at_sizes size count image refusal call ≡ refusal geometry
unfolding at_sizes
call-off size count image off refusal call = simp off

module _ (size count : ℕ) {image : List ℕ} {im : Image} (c : HasBlocks size count image im) where
  pub call-on {ℓ} : {A : Type ℓ} (refusal : Refusal → A) (call : (B S : ℕ) → Image → A)
      → at_sizes size count image refusal call ≡ call (size / block_size) count im
  unfolding at_sizes
  call-on refusal call = simp (c.legal, c.blocks)

  pub due-on : (call : Call) → due size count image call ≡ due_on (size / block_size) count im call
  unfolding due due_on mount_due write_due delete_due
  due-on (mount a) = call-on refuse mount_on
  due-on (write id value a) = call-on refuse (λ B S i. write_on B S i id value)
  due-on (delete id a) = call-on refuse (λ B S i. delete_on B S i id)

  -- what is left of it by stores that lie within
  pub leaves-on : (what : Due) (a : ℕ) → Each (Lies (size / block_size) count) (made what a)
      → HasBlocks size count (leaves size what a image) (apply (made what a) im)
  unfolding leaves
  leaves-on what a inside =
      let B : ℕ = size / block_size in
      let bounds = legal-bounds size count (length image) c.legal in
      record {
        legal = ap (legal_sizes size count) (length-stored B (made what a) image) ∙ c.legal;
        blocks = stored B count (made what a) image inside bounds.exact ∙ ap (apply (made what a)) c.blocks;
      }
