-- An append is atomic: data and look-ahead go into free blocks, so that only the entry itself shows.
use mathlib.Core.Path.{◌≡◌, refl, sym, ap, ◌∙◌, subst}
use mathlib.Core.Bool.{true, false}
use mathlib.Core.List.{List, [], ◌∷◌, ◌++◌}
use Prim.Native.Nat.{ℕ, ◌+◌, ◌-◌, ◌<◌, ◌≤◌}
use native.Mathlib.Omega.{arith}
use lib.ListN.{length, get_or, take, drop, set}
use lib.Seq.{take-set-le, get_or-set_other, get_or-set_same}
use Rattle.rules.specs.Notation.{Each}
use Rattle.rules.specs.Ground.{Block, Sector, Image, block_at}
use Rattle.rules.specs.Entry.{cycle_of}
use Rattle.rules.specs.Look.{Scan, start, after, data_of, is_within, is_lead, is_close, look, is_entry}
use Rattle.rules.specs.Reading.{Entry, View, view_of, entries_of, after_all, end_block}
use Rattle.rules.specs.Meaning.{views_of, view_at}
use Rattle.rules.specs.Stores.{Store, apply, data_stores, blank_if, entry_block, kind_of, append}
use Rattle.rules.proofs.Terms.{IsSector, IsImage, IsProper, IsAtomic, added_view, changed}
use Rattle.rules.proofs.Basics.Parts.{part_same, each_append}
use Rattle.rules.proofs.Blocks.Stable.{view-is}
use Rattle.rules.proofs.Blocks.Written.{entry-block, cycle-byte}
use Rattle.rules.proofs.Blocks.Added.{added-place, added-entries}
use Rattle.rules.proofs.Blocks.OnImage.{puts, puts-append, IsIn, apply-puts, atomic-in, sector-at, view-at}
use Rattle.rules.proofs.Blocks.Free.{IsFree, free_in, data-free, blank-free, Keeps, free-keeps, free-quiet, data-lies, blanked-none, blank_none}

-- the stores before the entry's own: its data, and the look-ahead on what they leave
abbrev scan_in : (B : ℕ) → Sector → Scan
scan_in B sector = after_all start (view_of B sector).entries

abbrev place_in : (B : ℕ) → Sector → ℕ
place_in B sector = end_block B (view_of B sector).entries

abbrev contents : (B s : ℕ) → Sector → Entry → List Store
contents B s sector e = data_stores s (scan_in B sector).data_end e.blocks

abbrev ahead : (B s : ℕ) → Sector → Entry → List Store
ahead B s sector e =
    let p : ℕ = place_in B sector - 1 in
    blank_if (is_entry (look B (view_of B sector).cycle (after (scan_in B sector) e.head) (get_or (puts (contents B s sector e) sector) p []))) s p

-- and the sector after them, and after the entry
abbrev prepared : (B s : ℕ) → Sector → Entry → Sector
prepared B s sector e = puts (contents B s sector e ++ ahead B s sector e) sector

abbrev block_in : (B : ℕ) → Sector → Entry → Block
block_in B sector e = entry_block (view_of B sector).cycle (scan_in B sector).data_end e

abbrev appended : (B s : ℕ) → Sector → Entry → Sector
appended B s sector e = set (prepared B s sector e) (place_in B sector) (block_in B sector e)

module _ (B s : ℕ) (sector : Sector) (e : Entry) (enough : 8 ≤ B) (small : B ≤ 4096) (is : IsSector B sector) (proper : IsProper e)
    (within : is_within B (scan_in B sector) e.head ≡ true) where
  room : (scan_in B sector).data_end + data_of e.head < place_in B sector
  unfolding view_of
  room = added-place B (view_of B sector).cycle sector e enough within

  contents-free : Each (IsFree s (scan_in B sector).data_end (place_in B sector)) (contents B s sector e)
  contents-free =
      let low : ℕ = (scan_in B sector).data_end in
      data-free s low (place_in B sector) low (omega arith) (omega (arith, room, proper.counted)) proper.blocks

  before-free : Each (IsFree s (scan_in B sector).data_end (place_in B sector)) (contents B s sector e ++ ahead B s sector e)
  before-free =
      let high : ℕ = place_in B sector in
      each_append contents-free (blank-free _ s (scan_in B sector).data_end high (high - 1) (omega (arith, room)) (omega (arith, room)))

  under-close : place_in B sector + 3 ≤ B
  unfolding end_block
  under-close = omega (arith, room)

  keeps : Keeps (scan_in B sector).data_end (place_in B sector) sector (prepared B s sector e)
  keeps = free-keeps before-free sector

  -- the data lies where the entry says
  lies : take (data_of e.head) (drop (scan_in B sector).data_end (appended B s sector e)) ≡ e.blocks
  lies =
      let d : ℕ = (scan_in B sector).data_end in
      let n : ℕ = data_of e.head in
      let p : ℕ = place_in B sector in
      let first : Sector = puts (contents B s sector e) sector in
      let fits : d + n < p = room in
      let model_after : Keeps (d + n) p first (puts (ahead B s sector e) first) = free-keeps (blank-free _ s (d + n) p (p - 1) (omega arith) (omega arith)) first in
      let same : take (d + n) (appended B s sector e) ≡ take (d + n) first =
      take-set-le (d + n) (prepared B s sector e) p (block_in B sector e) (omega arith)
      ∙ ap (take (d + n)) (puts-append (contents B s sector e) (ahead B s sector e) sector)
      ∙ model_after.below in
      part_same d n (d + n) first (appended B s sector e) (omega arith) same
      ∙ ap (λ (k : ℕ). take k (drop d first)) (sym proper.counted)
      ∙ data-lies s d e.blocks sector (omega (arith, proper.counted, is.sized, under-close))

  -- and the block below it ends the reading
  ends : is_entry (look B (view_of B sector).cycle (after (scan_in B sector) e.head) (get_or (appended B s sector e) (place_in B sector - 1) [])) ≡ false
  ends =
      let p : ℕ = place_in B sector in
      let first : Sector = puts (contents B s sector e) sector in
      let same : get_or (appended B s sector e) (p - 1) [] ≡ get_or (puts (ahead B s sector e) first) (p - 1) [] =
      get_or-set_other (prepared B s sector e) p (p - 1) (block_in B sector e) [] (λ same. omega (arith, room))
      ∙ ap (λ (x : Sector). get_or x (p - 1) []) (puts-append (contents B s sector e) (ahead B s sector e) sector) in
      ap (λ (block : Block). is_entry (look B (view_of B sector).cycle (after (scan_in B sector) e.head) block)) same
      ∙ blanked-none (λ (block : Block). is_entry (look B (view_of B sector).cycle (after (scan_in B sector) e.head) block)) s (p - 1) first
      (blank_none B (view_of B sector).cycle (after (scan_in B sector) e.head)) (omega (arith, (free-keeps contents-free sector).sized, is.sized, under-close))

  append-view : view_of B (appended B s sector e) ≡ added_view e (view_of B sector)
  unfolding view_of
  append-view =
      let cycle : ℕ = (view_of B sector).cycle in
      let d : ℕ = (scan_in B sector).data_end in
      let p : ℕ = place_in B sector in
      let old : Sector = prepared B s sector e in
      let block : Block = block_in B sector e in
      let low : p + 3 ≤ B = under-close in
      let above : ((b : ℕ) → p < b → get_or (set old p block) b [] ≡ get_or sector b []) = λ b from. get_or-set_other old p b block [] (λ same. omega arith) ∙ keeps.above b (omega arith) in
      let entries : entries_of B cycle (set old p block) ≡ entries_of B cycle sector ++ (e ∷ []) =
      added-entries B cycle sector (set old p block) e enough small proper within above
      (take-set-le d old p block (omega (arith, room)) ∙ keeps.below)
      (get_or-set_same old p block [] (omega (arith, keeps.sized, is.sized)))
      lies ends in
      view-is B cycle (set old p block) (ap is_lead (above (B - 1) (omega arith))) (ap cycle_of (above (B - 1) (omega arith))) (ap (is_close cycle) (above (B - 2) (omega arith))) entries

-- the stores of an append on an image, by its sector
append-stores : (B s : ℕ) (im : Image) (e : Entry) → Each (IsIn B s) (contents B s (get_or im s []) e) → s < length im
    → append B s e im
    ≡ contents B s (get_or im s []) e ++ ahead B s (get_or im s []) e
    ++ (record { sector = s; block = place_in B (get_or im s []); kind = kind_of e.head; bytes = block_in B (get_or im s []) e } ∷ [])
unfolding append block_at
append-stores B s im e own here =
    let sector : Sector = get_or im s [] in
    let p : ℕ = place_in B sector in
    let last : Store = record { sector = s; block = p; kind = kind_of e.head; bytes = block_in B sector e } in
    let laid : get_or (apply (contents B s sector e) im) s [] ≡ puts (contents B s sector e) sector =
    ap (λ (x : Image). get_or x s []) (apply-puts im own here) ∙ get_or-set_same im s (puts (contents B s sector e) sector) [] here in
    ap
    (λ (x : Sector). contents B s sector e ++ blank_if (is_entry (look B (view_of B sector).cycle (after (scan_in B sector) e.head) (get_or x (p - 1) []))) s (p - 1) ++ (last ∷ []))
    laid

pub append-atomic : {B S s : ℕ} {im : Image} {e : Entry} → 8 ≤ B → B ≤ 4096 → IsImage B S im → s < S → IsProper e
    → is_within B (after_all start (view_at (views_of B im) s).entries) e.head ≡ true → IsAtomic B S (append B s e) im (changed (added_view e) s (views_of B im))
append-atomic {B} {S} {s} {im} {e} enough small is inside proper fits =
    let sector : Sector = get_or im s [] in
    let here : s < length im = omega (arith, is.sized) in
    let seen : view_at (views_of B im) s ≡ view_of B sector = view-at B im s here in
    let whole : IsSector B sector = sector-at is inside in
    let within : is_within B (scan_in B sector) e.head ≡ true = subst (λ (v : View). is_within B (after_all start v.entries) e.head ≡ true) seen fits in
    let free : _ = before-free B s sector e enough small whole proper within in
    let low : place_in B sector + 3 ≤ B = under-close B s sector e enough small whole proper within in
    subst (λ (v : View). IsAtomic B S (append B s e) im (set (views_of B im) s (added_view e v))) (sym seen)
    (atomic-in is inside
    (append-stores B s im e (free_in (omega arith) (contents-free B s sector e enough small whole proper within)) here)
    (free_in (omega arith) free)
    (record { sector = refl; block = omega arith; bytes = entry-block (view_of B sector).cycle (scan_in B sector).data_end proper (cycle-byte enough whole) })
    (free-quiet sector enough free)
    (append-view B s sector e enough small whole proper within))
