-- What a sector gives to copy is few: at most B entries, each with at most B data blocks, on any image. What it turns on:
-- an entry counts only where its need leaves blocks over, so its head alone bounds its data.
-- Assumes nothing.
use mathlib.Core.Path.{◌≡◌, refl}
use mathlib.Core.Bool.{true}
use mathlib.Core.List.{List, [], ◌∷◌}
use Prim.Native.Nat.{ℕ, zero, suc, ◌+◌, ◌-◌, ◌≤◌}
use native.Mathlib.Omega.{arith}
use lib.ListN.{length, get_or, drop, length-take}
use borrow.Author.Tests.{leb-true}
use Rattle.rules.specs.Notation.{Each, empty, each}
use Rattle.rules.specs.Ground.{Sector, Image, kept_from_values}
use Rattle.rules.specs.Entry.{cycle_of}
use Rattle.rules.specs.Look.{Head, done, deletion, value, Scan, start, after, data_of, need_of, is_within, Verdict, entry, blank, other_cycle, wrong_check, wrong_form, over_limit, look}
use Rattle.rules.specs.Reading.{Entry, entry_at, entries_below, entries_of, View, view_of}
use Rattle.rules.specs.Meaning.{views_of, all_but, entries_in, live_among, live_each}
use Rattle.rules.specs.Stores.{survivors}
use Rattle.rules.proofs.Format.Look.{look-entry}
use Rattle.rules.proofs.Basics.Parts.{each_take, each-drop, each_append}
use Rattle.rules.proofs.Basics.Notation.{if-either}

-- an entry of no more data blocks than the largest sector has, and at most so many of such
abbrev pub IsShort : Entry → Type 0
IsShort e = length e.blocks ≤ 4096

pub record AreFew (n : ℕ) (es : List Entry) : Type 0 where
  pub number : length es ≤ n
  pub short : Each IsShort es

few-none : (n : ℕ) → AreFew n []
few-none n = record { number = omega arith; short = empty }

-- the limit on needs bounds the data blocks
within-blocks : (B : ℕ) (scan : Scan) (head : Head) → is_within B scan head ≡ true → data_of head ≤ B
unfolding is_within need_of data_of
within-blocks B scan done e = omega arith
within-blocks B scan (deletion id) e = omega arith
within-blocks B scan (value id len) e = omega (arith, leb-true (scan.needs + need_of (value id len)) (B - kept_from_values) e)

module _ (B : ℕ) (low : B ≤ 4096) where
  read_short : (sector : Sector) (p : ℕ) (scan : Scan) (head : Head) → is_within B scan head ≡ true → IsShort (entry_at sector p scan head)
  unfolding entry_at
  read_short sector p scan head within =
      omega (arith, within-blocks B scan head within, length-take (data_of head) (drop scan.data_end sector))

  -- a reading from the block below p on takes at most p entries
  few-below : (cycle : ℕ) (sector : Sector) (p : ℕ) (scan : Scan) → AreFew p (entries_below B cycle sector p scan)
  unfolding entries_below
  few-below cycle sector zero scan = few-none 0
  few-below cycle sector (suc p) scan = go (few-below cycle sector p) (look B cycle scan (get_or sector p [])) refl
    where
      go : ((s : Scan) → AreFew p (entries_below B cycle sector p s)) → (v : Verdict) → look B cycle scan (get_or sector p []) ≡ v
          → AreFew (suc p) (elim v [
            | entry head ↦ entry_at sector p scan head ∷ entries_below B cycle sector p (after scan head)
            | blank ↦ []
            | other_cycle ↦ []
            | wrong_check ↦ []
            | wrong_form ↦ []
            | over_limit ↦ []
          ])
      go below (entry head) e =
          let rest : AreFew p (entries_below B cycle sector p (after scan head)) = below (after scan head) in
          record { number = omega arith; short = each (read_short sector p scan head (look-entry B cycle scan (get_or sector p []) e).within) rest.short }
      go below blank e = few-none (suc p)
      go below other_cycle e = few-none (suc p)
      go below wrong_check e = few-none (suc p)
      go below wrong_form e = few-none (suc p)
      go below over_limit e = few-none (suc p)

-- live values are some of the entries
few-live : {es : List Entry} → Each IsShort es → (later : List Entry) → AreFew (length es) (live_among es later)
unfolding live_among
few-live empty later = few-none 0
few-live (each {x = e} {xs = es} short rest) later =
    let others : AreFew (length es) (live_among es later) = few-live rest later in
    if-either (AreFew (suc (length es))) _ {x = e ∷ live_among es later} {y = live_among es later}
    (λ _. record { number = omega arith; short = each short others.short })
    (λ _. record { number = omega arith; short = others.short })

-- each sector shows few entries
abbrev IsFew : ℕ → View → Type 0
IsFew B view = AreFew B view.entries

module _ (B : ℕ) (low : B ≤ 4096) where
  few-view : (sector : Sector) → IsFew B (view_of B sector)
  unfolding view_of entries_of
  few-view sector =
      let cycle : ℕ = cycle_of (get_or sector (B - 1) []) in
      let read : AreFew (B - 2) (entries_below B cycle sector (B - 2) start) = few-below B low cycle sector (B - 2) start in
      record { number = omega arith; short = read.short }

  few-views : (im : Image) → Each (IsFew B) (views_of B im)
  unfolding views_of
  few-views [] = empty
  few-views (sector ∷ im) = each (few-view sector) (few-views im)

  -- the survivors are live values of one sector
  few-first : {views : List View} → Each (IsFew B) views → AreFew B (get_or (live_each views) 0 [])
  unfolding live_each
  few-first empty = few-none B
  few-first (each {x = view} {xs = views} few rest) =
      let live : AreFew (length view.entries) (live_among view.entries (entries_in views)) = few-live few.short (entries_in views) in
      record { number = omega arith; short = live.short }

  pub few-survivors : (u : ℕ) (im : Image) → AreFew B (survivors B u im)
  unfolding survivors all_but
  few-survivors u im = few-first (each_append (each-drop (suc u) (few-views im)) (each_take u (few-views im)))
