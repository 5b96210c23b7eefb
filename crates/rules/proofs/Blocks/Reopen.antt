-- Closing and reopening a sector are atomic: what is blanked first was nothing under the old cycle, so only the lead shows.
use mathlib.Core.Path.{◌≡◌, refl, sym, ap, ◌∙◌, subst}
use mathlib.Core.Bool.{Bool, true, false, false≢true}
use mathlib.Core.List.{List, [], ◌++◌}
use mathlib.Core.Logic.{⊎_elim}
use Prim.Native.Nat.{ℕ, suc, ◌-◌, ◌<◌, ◌≤◌}
use native.Mathlib.Omega.{arith}
use lib.ListN.{length, get_or, take, set, length-set}
use lib.Seq.{get_or-set_other, get_or-set_same, get_or-take, take-nil}
use Rattle.rules.specs.Notation.{Each, empty}
use Rattle.rules.specs.Ground.{Block, Sector, Image, blank_block, block_at}
use Rattle.rules.specs.Entry.{cycle_of, lead_block, close_block}
use Rattle.rules.specs.Look.{Scan, start, is_lead, lead_cycle, is_close, look, is_entry}
use Rattle.rules.specs.Reading.{View, view_of, entries_of, entries_below, end_block}
use Rattle.rules.specs.Meaning.{views_of}
use Rattle.rules.specs.Stores.{Store, blank_store, blank_if, next_cycle, reopen, close_sector}
use Rattle.rules.proofs.Terms.{IsSector, IsImage, IsAtomic, closed_view, reopened_view, changed}
use Rattle.rules.proofs.Basics.Notation.{when-some, refuted}
use Rattle.rules.proofs.Format.Look.{blank-no-close, close-fields, look-entry, other-cycle-close}
use Rattle.rules.proofs.Format.Built.{lead-built, close-built}
use Rattle.rules.proofs.Basics.Parts.{each_append, each_take}
use Rattle.rules.proofs.Blocks.Reading.{entries-end}
use Rattle.rules.proofs.Blocks.Place.{verdict-cases}
use Rattle.rules.proofs.Blocks.Counting.{counted}
use Rattle.rules.proofs.Blocks.Stable.{entries-store, view-is}
use Rattle.rules.proofs.Blocks.Written.{lead_block_lem, close_block_lem, cycle-byte}
use Rattle.rules.proofs.Blocks.OnImage.{puts, puts-keep, puts-append, atomic-in, sector-at, view-at}
use Rattle.rules.proofs.Blocks.Free.{IsFree, free_in, each-blank, blank-free, Keeps, free-keeps, blanked-none, blank_none}

-- "old plus 1, 255 going to 0" is another byte
pub next-cycle-other : (cycle : ℕ) → next_cycle cycle ≡ cycle → ⊥
unfolding next_cycle
next-cycle-other cycle same = omega arith

pub next-cycle-byte : (cycle : ℕ) → next_cycle cycle < 256
unfolding next_cycle
next-cycle-byte cycle = omega arith

-- Blocks B-1 and B-2 are not read as entries.
module _ (B cycle : ℕ) (sector : Sector) (enough : 8 ≤ B) where
  entries-top : (b : ℕ) (block : Block) → B - 2 ≤ b → entries_of B cycle (set sector b block) ≡ entries_of B cycle sector
  unfolding end_block
  entries-top b block high = entries-store B cycle sector enough b block (omega (arith, (counted B cycle sector enough).below)) (λ from below. omega arith)

  entries_none : is_entry (look B cycle start (get_or sector (B - 3) [])) ≡ false → entries_of B cycle sector ≡ []
  unfolding entries_of
  entries_none ended =
      let first : B - 2 ≡ suc (B - 3) = omega arith in
      ap (λ (p : ℕ). entries_below B cycle sector p start) first ∙ entries-end B cycle sector (B - 3) start ended

-- A store over the close decides whether the sector is closed, and nothing else.
stored-close : (B : ℕ) (sector : Sector) → 8 ≤ B → length sector ≡ B → (block : Block) {closed : Bool} → is_close (view_of B sector).cycle block ≡ closed
    → view_of B (set sector (B - 2) block) ≡ record { led = (view_of B sector).led; cycle = (view_of B sector).cycle; closed = closed; entries = (view_of B sector).entries }
unfolding view_of
stored-close B sector enough sized block is =
    let cycle : ℕ = (view_of B sector).cycle in
    let other : Sector = set sector (B - 2) block in
    let top : get_or other (B - 1) [] ≡ get_or sector (B - 1) [] = get_or-set_other sector (B - 2) (B - 1) block [] (λ same. omega arith) in
    view-is B cycle other (ap is_lead top) (ap cycle_of top)
    (ap (is_close cycle) (get_or-set_same sector (B - 2) block [] (omega arith)) ∙ is)
    (entries-top B cycle sector enough (B - 2) block (omega arith))

pub close-atomic : {B S s : ℕ} {im : Image} → 8 ≤ B → IsImage B S im → s < S → IsAtomic B S (close_sector B s) im (changed closed_view s (views_of B im))
unfolding close_sector puts
close-atomic {B} {S} {s} {im} enough is inside =
    let sector : Sector = get_or im s [] in
    let whole : IsSector B sector = sector-at is inside in
    subst (λ (v : View). IsAtomic B S (close_sector B s) im (set (views_of B im) s (closed_view v))) (sym (view-at B im s (omega (arith, is.sized))))
    (atomic-in is inside {before = []} refl empty
    (record { sector = refl; block = omega arith; bytes = close_block_lem (view_of B sector).cycle (cycle-byte enough whole) })
    (λ k. ap (λ (sts : List Store). view_of B (puts sts sector)) (take-nil k))
    (stored-close B sector enough whole.sized (close_block (view_of B sector).cycle) (close-built (view_of B sector).cycle)))

-- What reopening stores before the lead: blanks over what would read under the new cycle.
abbrev blanks : (B s cycle : ℕ) → Sector → List Store
blanks B s cycle sector =
    blank_if (is_close cycle (get_or sector (B - 2) [])) s (B - 2) ++ blank_if (is_entry (look B cycle start (get_or sector (B - 3) []))) s (B - 3)

-- A blank first entry does not show where there was no entry.
blank-first : (B : ℕ) (sector : Sector) → 8 ≤ B → length sector ≡ B → (view_of B sector).entries ≡ [] → view_of B (set sector (B - 3) blank_block) ≡ view_of B sector
unfolding view_of
blank-first B sector enough sized unused =
    let cycle : ℕ = (view_of B sector).cycle in
    let other : Sector = set sector (B - 3) blank_block in
    let above : ((b : ℕ) → B - 3 < b → get_or other b [] ≡ get_or sector b []) = λ b from. get_or-set_other sector (B - 3) b blank_block [] (λ same. omega arith) in
    let first : get_or other (B - 3) [] ≡ blank_block = get_or-set_same sector (B - 3) blank_block [] (omega arith) in
    view-is B cycle other (ap is_lead (above (B - 1) (omega arith))) (ap cycle_of (above (B - 1) (omega arith))) (ap (is_close cycle) (above (B - 2) (omega arith)))
    (entries_none B cycle other enough (ap (λ (block : Block). is_entry (look B cycle start block)) first ∙ blank_none B cycle start) ∙ sym unused)

-- an entry has its sector's cycle, so under another it is none
entry-cycle : (B cycle : ℕ) (scan : Scan) (block : Block) → is_entry (look B cycle scan block) ≡ true → cycle_of block ≡ cycle
entry-cycle B cycle scan block is =
    ⊎_elim (λ found. (look-entry B cycle scan block found.1).right_cycle) (λ none. absurd (false≢true (sym none ∙ is))) (verdict-cases (look B cycle scan block))

pub other_none : (B cycle : ℕ) (scan : Scan) (block : Block) → (cycle_of block ≡ cycle → ⊥) → is_entry (look B cycle scan block) ≡ false
other_none B cycle scan block other = refuted (is_entry (look B cycle scan block)) (λ is. other (entry-cycle B cycle scan block is))

-- a whole sector that shows so much
record Shows (B : ℕ) (view : View) (sector : Sector) : Type 0 where
  sized : length sector ≡ B
  shows : view_of B sector ≡ view

module _ (B s : ℕ) (sector : Sector) (enough : 8 ≤ B) (sized : length sector ≡ B) where
  blanks-free : (cycle : ℕ) → Each (IsFree s (B - 3) (B - 1)) (blanks B s cycle sector)
  blanks-free cycle = each_append (blank-free _ s (B - 3) (B - 1) (B - 2) (omega arith) (omega arith)) (blank-free _ s (B - 3) (B - 1) (B - 3) (omega arith) (omega arith))

  -- under the old cycle they were neither
  blanks-quiet : (k : ℕ) → view_of B (puts (take k (blanks B s (next_cycle (view_of B sector).cycle) sector)) sector) ≡ view_of B sector
  unfolding view_of blank_store
  blanks-quiet k =
      let old : ℕ = (view_of B sector).cycle in
      let view : View = view_of B sector in
      (puts-keep {R = Shows B view}
      (each_take k (each_append
      (each-blank (is_close (next_cycle old) (get_or sector (B - 2) [])) s (B - 2)
      (λ held x it.
      let unclosed : is_close old (get_or sector (B - 2) []) ≡ false =
      other-cycle-close old (get_or sector (B - 2) []) (λ same. next-cycle-other old (sym (close-fields (next_cycle old) (get_or sector (B - 2) []) held).right_cycle ∙ same)) in
      record { sized = length-set x (B - 2) blank_block ∙ it.sized; shows = stored-close B x enough it.sized blank_block (blank-no-close (view_of B x).cycle ∙ sym (ap (λ (v : View). v.closed) it.shows ∙ unclosed)) ∙ it.shows }))
      (each-blank (is_entry (look B (next_cycle old) start (get_or sector (B - 3) []))) s (B - 3)
      (λ held x it.
      let unused : entries_of B old sector ≡ [] =
      entries_none B old sector enough
      (other_none B old start (get_or sector (B - 3) []) (λ same. next-cycle-other old (sym (entry-cycle B (next_cycle old) start (get_or sector (B - 3) []) held) ∙ same))) in
      record { sized = length-set x (B - 3) blank_block ∙ it.sized; shows = blank-first B x enough it.sized (ap (λ (v : View). v.entries) it.shows ∙ unused) ∙ it.shows }))))
      sector (record { sized = sized; shows = refl })).shows

  reopened : (cycle : ℕ)
      → view_of B (set (puts (blanks B s cycle sector) sector) (B - 1) (lead_block cycle)) ≡ record { led = true; cycle = cycle; closed = false; entries = [] }
  unfolding lead_cycle
  reopened cycle =
      let shut : List Store = blank_if (is_close cycle (get_or sector (B - 2) [])) s (B - 2) in
      let first : List Store = blank_if (is_entry (look B cycle start (get_or sector (B - 3) []))) s (B - 3) in
      let one : Sector = puts shut sector in
      let two : Sector = puts (blanks B s cycle sector) sector in
      let other : Sector = set two (B - 1) (lead_block cycle) in
      let split : two ≡ puts first one = puts-append shut first sector in
      let kept-one : Keeps (B - 2) (B - 1) sector one = free-keeps (blank-free _ s (B - 2) (B - 1) (B - 2) (omega arith) (omega arith)) sector in
      let kept-two : Keeps (B - 3) (B - 2) one (puts first one) = free-keeps (blank-free _ s (B - 3) (B - 2) (B - 3) (omega arith) (omega arith)) one in
      let model_after : Keeps (B - 3) (B - 1) sector two = free-keeps (blanks-free cycle) sector in
      let under : get_or other (B - 2) [] ≡ get_or one (B - 2) [] =
      get_or-set_other two (B - 1) (B - 2) (lead_block cycle) [] (λ same. omega arith) ∙ ap (λ (x : Sector). get_or x (B - 2) []) split ∙ kept-two.above (B - 2) (omega arith) in
      let lower : get_or other (B - 3) [] ≡ get_or (puts first one) (B - 3) [] =
      get_or-set_other two (B - 1) (B - 3) (lead_block cycle) [] (λ same. omega arith) ∙ ap (λ (x : Sector). get_or x (B - 3) []) split in
      let unmoved : get_or one (B - 3) [] ≡ get_or sector (B - 3) [] =
      sym (get_or-take (B - 2) one (B - 3) [] (omega arith)) ∙ ap (λ (x : Sector). get_or x (B - 3) []) kept-one.below ∙ get_or-take (B - 2) sector (B - 3) [] (omega arith) in
      let test : (Block → Bool) = λ block. is_entry (look B cycle start block) in
      let (is-led, its-cycle) = when-some (is_lead (lead_block cycle)) (cycle_of (lead_block cycle)) (lead-built cycle) in
      let top : get_or other (B - 1) [] ≡ lead_block cycle = get_or-set_same two (B - 1) (lead_block cycle) [] (omega (arith, model_after.sized)) in
      view-is B cycle other (ap is_lead top ∙ is-led) (ap cycle_of top ∙ its-cycle)
      (ap (is_close cycle) under ∙ blanked-none (is_close cycle) s (B - 2) sector (blank-no-close cycle) (omega arith))
      (entries_none B cycle other enough
      (ap test lower
      ∙ ap (λ (block : Block). test (get_or (puts (blank_if (test block) s (B - 3)) one) (B - 3) [])) (sym unmoved)
      ∙ blanked-none test s (B - 3) one (blank_none B cycle start) (omega (arith, kept-one.sized))))

pub reopen-atomic : {B S s : ℕ} {im : Image} → 8 ≤ B → IsImage B S im → s < S → IsAtomic B S (reopen B s) im (changed reopened_view s (views_of B im))
unfolding reopen block_at
reopen-atomic {B} {S} {s} {im} enough is inside =
    let sector : Sector = get_or im s [] in
    let whole : IsSector B sector = sector-at is inside in
    let cycle : ℕ = next_cycle (view_of B sector).cycle in
    subst (λ (v : View). IsAtomic B S (reopen B s) im (set (views_of B im) s (reopened_view v))) (sym (view-at B im s (omega (arith, is.sized))))
    (atomic-in is inside refl
    (free_in (omega arith) (blanks-free B s sector enough whole.sized cycle))
    (record { sector = refl; block = omega arith; bytes = lead_block_lem cycle (next-cycle-byte (view_of B sector).cycle) })
    (blanks-quiet B s sector enough whole.sized)
    (reopened B s sector enough whole.sized cycle))
