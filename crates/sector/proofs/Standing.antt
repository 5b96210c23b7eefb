-- A reading under way: how it starts, goes on from block to block, and ends.
-- Assumes nothing.
use mathlib.Core.Path.{◌≡◌, refl, sym, ap, ◌∙◌, subst}
use mathlib.Core.Bool.{Bool, true, false, not, ◌||◌}
use mathlib.Core.List.{List, [], ◌∷◌, ◌++◌}
use mathlib.Core.Logic.{⊎_elim}
use Prim.Native.Nat.{ℕ, suc, ◌+◌, ◌-◌, ◌<◌, ◌≤◌}
use native.Mathlib.Omega.{arith}
use lib.ListN.{length, get_or}
use Rattle.rules.specs.Notation.{is_empty}
use Rattle.rules.specs.Ground.{Sector}
use Rattle.rules.specs.Look.{Head, Scan, entry, start, after, look, is_entry, is_done}
use Rattle.rules.specs.Reading.{Entry, entry_at, entries_below, entries_of, after_all, end_block, end_verdict}
use Rattle.rules.proofs.Basics.Places.{any_append}
use Rattle.rules.proofs.Format.Look.{look-entry}
use Rattle.rules.proofs.Blocks.Reading.{Took, took-none, took_more, took-down, took-snoc, took-entries, after-snoc, entries-more, entries-end}
use Rattle.rules.proofs.Blocks.Counting.{done_all}
use Rattle.rules.proofs.Blocks.Place.{Place, place-start, place-data, place-step, verdict-cases}
use Rattle.entry.specs.Answer.{scan_as, reason_of}
use Rattle.sector.specs.Answer.{entries_as, has_done_among}

-- With block p to be looked at next: the entries that were taken, what they come to, and that p is left to look at.
pub record Standing (B cycle : ℕ) (sector : Sector) (scan : Scan) (p : ℕ) : Type 0 where
  pub taken : List Entry
  pub took : Took B cycle sector (B - 2) start taken (suc p)
  pub sum : scan ≡ after_all start taken
  pub place : Place B (suc p) scan

-- it starts at block B-3
pub stand-start : (B cycle : ℕ) (sector : Sector) → 8 ≤ B → Standing B cycle sector start (B - 3)
unfolding after_all
stand-start B cycle sector enough =
    let same : B - 2 ≡ suc (B - 3) = omega arith in
    record {
      taken = [];
      took = subst (λ (q : ℕ). Took B cycle sector (B - 2) start [] q) same took-none;
      sum = refl;
      place = subst (λ (q : ℕ). Place B q start) same (place-start B enough);
    }

-- the entries that were taken begin the reading
took-begins : {B cycle : ℕ} {sector : Sector} {p q : ℕ} {scan : Scan} {es : List Entry} → Took B cycle sector p scan es q
    → (rest : List Entry) × (entries_below B cycle sector p scan ≡ es ++ rest)
took-begins {B} {cycle} {sector} (took-none {p = p} {scan = scan}) = (entries_below B cycle sector p scan, refl)
took-begins {B} {cycle} {sector} (took_more {p = p} {scan = scan} here at more) =
    let (rest, same) = took-begins more in
    (rest, entries-more B cycle sector p scan here ∙ (λ i. at i ∷ same i))

module _ {B cycle : ℕ} {sector : Sector} {scan : Scan} {p : ℕ} (s : Standing B cycle sector scan p) where
  pub stand-below : p + 3 ≤ B
  stand-below = let down : _ = took-down s.took in omega (arith, down)

  -- after an entry there is a block left, and the reading goes on with it
  module _ {head : Head} (here : look B cycle scan (get_or sector p []) ≡ entry head) where
    left-place : Place B p (after scan head)
    left-place = place-step head (look-entry B cycle scan (get_or sector p []) here).within s.place

    pub stand-left : 0 < p
    stand-left = omega (arith, place-data left-place)

    pub stand-next : Standing B cycle sector (after scan head) (p - 1)
    unfolding entry_at
    stand-next =
        let same : p ≡ suc (p - 1) = omega (arith, stand-left) in
        let e : Entry = entry_at sector p (after_all start s.taken) head in
        let es : List Entry = s.taken ++ (e ∷ []) in
        let there : look B cycle (after_all start s.taken) (get_or sector p []) ≡ entry head = rw s.sum at here in
        record {
          taken = es;
          took = subst (λ (q : ℕ). Took B cycle sector (B - 2) start es q) same (took-snoc s.took there refl);
          sum = ap (λ (x : Scan). after x head) s.sum ∙ sym (after-snoc start s.taken e);
          place = subst (λ (q : ℕ). Place B q (after scan head)) same left-place;
        }

  -- and a block that is none ends it: the sector is read
  pub stand-end : is_entry (look B cycle scan (get_or sector p [])) ≡ false
      → record { count = B - 3 - p; scan = scan_as scan; ended = reason_of (look B cycle scan (get_or sector p [])) } ≡ entries_as B cycle sector
  unfolding entries_of end_verdict end_block
  stand-end none =
      let ended : is_entry (look B cycle (after_all start s.taken) (get_or sector p [])) ≡ false = rw s.sum at none in
      let read : entries_of B cycle sector ≡ s.taken = took-entries s.took ended in
      let down : suc p + length s.taken ≡ B - 2 = took-down s.took in
      let count : B - 3 - p ≡ length s.taken = omega arith in
      let last : p ≡ B - 3 - length s.taken = omega arith in
      rw (read, ← last, ← count, s.sum)

  pub stand-entries : is_entry (look B cycle scan (get_or sector p [])) ≡ false → entries_of B cycle sector ≡ s.taken
  unfolding entries_of
  stand-entries none = took-entries s.took (rw s.sum at none)

  -- a done among the entries that were taken shows in what they come to
  taken-done : scan.done ≡ has_done_among s.taken
  taken-done = ap (λ (x : Scan). x.done) s.sum ∙ done_all s.taken

  -- and so in what the entries come to
  pub stand-noted : is_entry (look B cycle scan (get_or sector p [])) ≡ false → scan.done ≡ has_done_among (entries_of B cycle sector)
  stand-noted none = taken-done ∙ ap has_done_among (sym (stand-entries none))

  pub stand-done : scan.done ≡ true → true ≡ has_done_among (entries_of B cycle sector)
  unfolding entries_of
  stand-done done =
      let (rest, same) = took-begins s.took in
      ap (λ (b : Bool). b || has_done_among rest) (sym done ∙ taken-done)
      ∙ sym (any_append (λ (e : Entry). is_done e.head) s.taken rest)
      ∙ ap has_done_among (sym same)

-- ---- whether there is a first entry

pub unused-by : (B cycle : ℕ) (sector : Sector) → 8 ≤ B → is_empty (entries_of B cycle sector) ≡ not (is_entry (look B cycle start (get_or sector (B - 3) [])))
unfolding entries_of is_empty is_entry
unused-by B cycle sector enough =
    let same : B - 2 ≡ suc (B - 3) = omega arith in
    ⊎_elim
    (λ found. rw (same, entries-more B cycle sector (B - 3) start found.1, found.1))
    (λ none. rw (same, entries-end B cycle sector (B - 3) start none, none))
    (verdict-cases (look B cycle start (get_or sector (B - 3) [])))
