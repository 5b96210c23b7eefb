-- The bench sheet's rows 8, 13 and 14, which hold of every image.
use mathlib.Core.Path.{◌≡◌, refl, ap, ◌∙◌}
use mathlib.Core.Bool.{true, false}
use mathlib.Core.List.{List, [], ◌∷◌, ◌++◌}
use mathlib.Core.Option.{none}
use Prim.Native.Nat.{ℕ, zero, suc, ◌-◌, ◌/◌, ◌<◌, ◌≤◌}
use native.Mathlib.Omega.{arith}
use lib.ListN.{length, get_or, set, length-set}
use lib.Seq.{get_or-set_same}
use Rattle.rules.specs.Notation.{all, Each, empty, each}
use Rattle.rules.specs.Ground.{Block, Sector, Image, block_size, reserved_id, legal_sizes, image_of, block_at, store, blank_block}
use Rattle.rules.specs.Entry.{cycle_of, numbers, lead_length, lead_mark, lead_block}
use Rattle.rules.specs.Look as look
use Rattle.rules.specs.Look.{is_close, start, is_entry}
use Rattle.rules.specs.Reading.{view_of}
use Rattle.rules.specs.Meaning.{views_of, state_of}
use Rattle.rules.specs.Stores.{Store, Kind, apply, blank_store, blank_if, reopen, next_cycle, format}
use Rattle.rules.specs.Calls.{Due, make, refuse, geometry, no_store, Answer, answer, made, in_state, leaves, Reply, format_due, mount_due, write_due, delete_due, read, format_on, mount_on, write_on, delete_on, read_on}
use Rattle.bench_rows.specs.BenchSheet.{ReopensAt0, OffSizes}
use Rattle.rules.proofs.Format.Ground.{legal-bounds, size-112, size-136, size-65552, one-sector, sixty-five-sectors}
use Rattle.rules.proofs.Format.Look.{blank-no-lead}
use Rattle.rules.proofs.Format.Entry.{cycle-encode}
use Rattle.rules.proofs.Crash.Cuts.{apply-append}
use Rattle.rules.proofs.Blocks.OnBytes.{inside-lie, HasBlocks, call-on, call-off, leaves-on}
use Rattle.rules.proofs.Blocks.Formatted.{length-image, length-sector, format-inside}

-- ---- row 8

wraps : next_cycle 255 ≡ 0
unfolding next_cycle
wraps = refl

-- stores keep the number of sectors, and of blocks in each
length-stored-sector : (im : Image) (s b : ℕ) (block : Block) (i : ℕ) → length (get_or (store im s b block) i []) ≡ length (get_or im i [])
unfolding store
length-stored-sector [] s b block i = refl
length-stored-sector (x ∷ xs) zero b block zero = length-set x b block
length-stored-sector (x ∷ xs) zero b block (suc i) = refl
length-stored-sector (x ∷ xs) (suc s) b block zero = refl
length-stored-sector (x ∷ xs) (suc s) b block (suc i) = length-stored-sector xs s b block i

apply-keeps : (ss : List Store) (im : Image) (i : ℕ) → (length (apply ss im) ≡ length im) × (length (get_or (apply ss im) i []) ≡ length (get_or im i []))
unfolding apply store
apply-keeps [] im i = (refl, refl)
apply-keeps (x ∷ xs) im i =
    let (sectors, blocks) = apply-keeps xs (store im x.sector x.block x.bytes) i in
    (sectors ∙ length-set im x.sector _, blocks ∙ length-stored-sector im x.sector x.block x.bytes i)

-- a sector shows the cycle of the lead that was stored last
lead-shows : (B s cycle : ℕ) (im : Image) (before : List Store) → 1 ≤ B → s < length im → length (get_or im s []) ≡ B
    → (view_of B (get_or (apply (before ++ (record { sector = s; block = B - 1; kind = Kind.lead; bytes = lead_block cycle } ∷ [])) im) s [])).cycle ≡ cycle
unfolding view_of apply store lead_block
lead-shows B s cycle im before hB hs sized =
    let left : Image = apply before im in
    let (sectors, blocks) = apply-keeps before im s in
    let sector : Sector = set (get_or left s []) (B - 1) (lead_block cycle) in
    ap (λ (i : Image). cycle_of (get_or (get_or i s []) (B - 1) [])) (apply-append before _ im)
    ∙ ap (λ (l : Sector). cycle_of (get_or l (B - 1) [])) (get_or-set_same left s sector [] (omega arith))
    ∙ ap cycle_of (get_or-set_same (get_or left s []) (B - 1) (lead_block cycle) [] (omega arith))
    ∙ cycle-encode cycle lead_length reserved_id (numbers 0 lead_mark)

pub reopens-at-0 : (B s : ℕ) (im : Image) → (view_of B (get_or im s [])).cycle ≡ 255 → ReopensAt0 B s im
unfolding reopen
reopens-at-0 B s im e =
    let cycle : ℕ = next_cycle (view_of B (get_or im s [])).cycle in
    let before : List Store =
    blank_if (is_close cycle (block_at im s (B - 2))) s (B - 2) ++ blank_if (is_entry (look.look B cycle start (block_at im s (B - 3)))) s (B - 3) in
    let last : reopen B s im ≡ before ++ (record { sector = s; block = B - 1; kind = Kind.lead; bytes = lead_block 0 } ∷ []) =
    ap (λ (c : ℕ). before ++ (record { sector = s; block = B - 1; kind = Kind.lead; bytes = lead_block c } ∷ [])) (ap next_cycle e ∙ wraps) in
    record {
      before = before;
      stores = last;
      shows = λ hB hs sized. ap (λ (ss : List Store). (view_of B (get_or (apply ss im) s [])).cycle) last ∙ lead-shows B s 0 im before hB hs sized;
    }

-- ---- row 13

off-sizes : (size count : ℕ) → ((len : ℕ) → legal_sizes size count len ≡ false) → OffSizes size count
unfolding format_due mount_due write_due delete_due read answer
off-sizes size count off =
    record {
      formats = λ image a. answers a (call-off size count image (off (length image)) refuse format_on);
      mounts = λ image a. answers a (call-off size count image (off (length image)) refuse mount_on);
      writes = λ image id value a. answers a (call-off size count image (off (length image)) refuse (λ B S im. write_on B S im id value));
      deletes = λ image id a. answers a (call-off size count image (off (length image)) refuse (λ B S im. delete_on B S im id));
      reads = λ image id n. call-off size count image (off (length image)) Reply.refused (λ B S im. read_on B S im id n);
    }
  where
    answers : {d : Due} (a : ℕ) → d ≡ refuse geometry → answer d a ≡ Answer.refused geometry
    answers a e = ap (λ (x : Due). answer x a) e

pub illegal-sizes : ((count : ℕ) → OffSizes 112 count × OffSizes 136 count × OffSizes 65552 count) × ((size : ℕ) → OffSizes size 1 × OffSizes size 65)
illegal-sizes = (
  λ count. (off-sizes 112 count (size-112 count), off-sizes 136 count (size-136 count), off-sizes 65552 count (size-65552 count)),
  λ size. (off-sizes size 1 (one-sector size), off-sizes size 65 (sixty-five-sectors size)),
)

-- ---- row 14

-- an image without its first lead is no store
no-first-lead : (B : ℕ) (im : Image) → 0 < length im → B - 1 < length (get_or im 0 []) → state_of (views_of B (store im 0 (B - 1) blank_block)) ≡ none
unfolding state_of views_of view_of store all
no-first-lead B [] some-sector some_block = absurd (omega arith)
no-first-lead B (x ∷ xs) some-sector some_block = simp (get_or-set_same x (B - 1) blank_block [] some_block, blank-no-lead)

each_first {ℓ κ} : {A : Type ℓ} {P : A → Type κ} {x : A} {xs : List A} → Each P (x ∷ xs) → Each P (x ∷ [])
each_first (each p ps) = each p empty

pub format-cut : (size count : ℕ) (bytes : List ℕ) (a : ℕ) → legal_sizes size count (length bytes) ≡ true
    → answer (mount_due size count (leaves size (format_due size count bytes) 1 bytes)) a ≡ Answer.refused no_store
unfolding format_due format_on mount_due mount_on made format in_state apply blank_store answer
format-cut size count bytes a legal =
    let B : ℕ = size / block_size in
    let bounds = legal-bounds size count (length bytes) legal in
    let im : Image = image_of B count bytes in
    let whole : HasBlocks size count bytes im = record { legal = legal; blocks = refl } in
    let what : format_due size count bytes ≡ make (format B count) 0 = call-on size count whole refuse format_on in
    let left = leaves-on size count whole (make (format B count) 0) 1 (each_first (inside-lie (format-inside B count (omega arith) (omega arith)))) in
    let sector : length (get_or im 0 []) ≡ B = length-sector B count bytes 0 (omega arith) in
    let none_left : state_of (views_of B (store im 0 (B - 1) blank_block)) ≡ none =
    no-first-lead B im (omega (arith, length-image B count bytes)) (omega arith) in
    let refused : mount_on B count (store im 0 (B - 1) blank_block) ≡ refuse no_store = simp none_left in
    ap (λ (d : Due). answer (mount_due size count (leaves size d 1 bytes)) a) what
    ∙ ap (λ (d : Due). answer d a) (call-on size count left refuse mount_on ∙ refused)
