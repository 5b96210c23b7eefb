-- Copying the live values of a sector: what is known before entry n, how it goes on with it, and what it comes to.
-- Assumes nothing.
use mathlib.Core.Path.{◌≡◌, refl, sym, ap, subst, ◌∙◌}
use mathlib.Core.Bool.{Bool, true, false, not, ◌||◌}
use mathlib.Core.List.{List, [], ◌∷◌, ◌++◌}
use Prim.Native.Nat.{ℕ, suc, ◌+◌, ◌-◌, ◌≤◌, ◌<◌}
use native.Mathlib.Omega.{arith}
use lib.ListN.{length, get_or, drop}
use Rattle.std.specs.Prelude.{Result, Ok, Err, is_err}
use Rattle.rules.specs.Ground.{kept_from_values}
use Rattle.rules.specs.Look.{Head, Scan, start, after, is_done, need_of, is_within}
use Rattle.rules.specs.Reading.{Entry, View, after_all}
use Rattle.rules.specs.Meaning.{view_at, entries_in, is_value, is_renewed, newer_than, live_in, needs_of}
use Rattle.rules.specs.Stores.{nothing, append, append_all}
use Rattle.layout.specs.declared.Geometry.{Geometry}
use Rattle.rules.proofs.Terms.{IsProper}
use Rattle.rules.proofs.Basics.Notation.{both_true}
use Rattle.rules.proofs.Basics.Parts.{each_at}
use Rattle.rules.proofs.Ring.Live.{live-needs}
use Rattle.rules.proofs.Blocks.OnImage.{proper-view}
use Rattle.rules.proofs.Blocks.Stored.{value-head}
use Rattle.rules.proofs.Crash.Turning.{within-value}
use Rattle.layout.specs.Geometry.{blocks_of, sectors_of}
use Rattle.entry.specs.Answer.{scan_of}
use Rattle.image.specs.declared.active.Active.{Active}
use Rattle.image.specs.Answer.{active_as}
use Rattle.image.specs.Answer.{no_entry}
use Rattle.live.specs.Live.{live_flags_in}
use Rattle.image.proofs.Laws.{entries-counted}
use Rattle.live.proofs.LiveLaws.{chosen, chosen-here, chosen-passed, chosen-end, live-flag, length-live-in, chosen-live-in}
use Rattle.budget.specs.declared.Cut.{Cut}
use Rattle.budget.specs.declared.Writer.{Writer}
use Rattle.budget.specs.Budget.{held, shown, Did}
use Rattle.append.specs.Append.{with_entry}
use Rattle.copying.specs.Copy.{entry_in}
use Rattle.turn.specs.Turn.{Gathered}
use Rattle.budget.proofs.Laws.{whole_image, did_none, did-and-then, did-and-then-cut}
use Rattle.append.proofs.Appending.{within-done}
use Rattle.append.proofs.AfterAppend.{append-lies, appended-active, appended-others}

-- the live values of a sector from entry n on, `to` being the sector that is ignored
abbrev pub live_from : List View → (from to n : ℕ) → List Entry
live_from views from to n = chosen (drop n (live_flags_in to from views)) (drop n (view_at views from).entries)

-- The live values before entry n are copied: whatever finishes the rest from here finishes the whole from the start.
pub record Copying (from to : ℕ) (before now : Writer) (active : Active) (n : ℕ) : Type 0 where
  pub geometry : now.geometry ≡ before.geometry
  pub told : active ≡ active_as to (view_at (shown now) to)
  pub undone : active.scan.done ≡ false
  pub others : (t : ℕ) → (t ≡ to → ⊥) → view_at (shown now) t ≡ view_at (shown before) t
  pub fits : active.scan.needs + needs_of (live_from (shown before) from to n) ≤ blocks_of before.geometry - kept_from_values
  pub follows : (after : Writer) (r : Result Active Cut) → Did now (append_all (blocks_of now.geometry) to (live_from (shown before) from to n) (held now)) after r
      → Did before (append_all (blocks_of before.geometry) to (live_in to from (shown before)) (held before)) after r

-- a value is no done
value-undone : (scan : Scan) (head : Head) → is_value head ≡ true → scan.done ≡ false → (after scan head).done ≡ false
unfolding after is_done
value-undone scan head valued none =
    ap (λ (h : Head). scan.done || is_done h) (value-head head valued) ∙ ap (λ (b : Bool). b || false) none

module _ (from to : ℕ) (before : Writer) where
  flags-count : length (live_flags_in to from (shown before)) ≡ length (view_at (shown before) from).entries
  flags-count = length-live-in to from (shown before)

  -- nothing is copied yet
  pub copying-none : {active : Active} → from < sectors_of before.geometry → (view_at (shown before) to).entries ≡ []
      → active ≡ active_as to (view_at (shown before) to) → Copying from to before before active 0
  unfolding after_all start live_in needs_of
  copying-none {active} inside unused known =
      let blank : active.scan ≡ (active_as to (record { led = false; cycle = 0; closed = false; entries = [] })).scan =
      ap (λ (x : Active). x.scan) known ∙ ap (λ (es : List Entry). (active_as to (record { led = false; cycle = 0; closed = false; entries = es })).scan) unused in
      let all : live_from (shown before) from to 0 ≡ live_in to from (shown before) = chosen-live-in to from (shown before) in
      let few : active.scan.needs ≡ 0 = ap (λ (x : _). x.needs) blank in
      let sum : needs_of (live_from (shown before) from to 0) ≡ needs_of (live_in to from (shown before)) = ap needs_of all in
      record {
        geometry = refl;
        told = known;
        undone = ap (λ (x : _). x.done) blank;
        others = λ t other. refl;
        fits = omega (
          arith,
          few,
          sum,
          live-needs (view_at (shown before) from).entries (entries_in (newer_than to from (shown before))),
          (entries-counted before.geometry before.image.now from inside).values,
        );
        follows = λ after r did. subst (λ (es : List Entry). Did before (append_all (blocks_of before.geometry) to es (held before)) after r) all did;
      }

  module _ {now : Writer} {active : Active} {n : ℕ} (k : Copying from to before now active n) where
    -- all are copied
    pub copying-end : length (view_at (shown before) from).entries ≤ n
        → Did before (append_all (blocks_of before.geometry) to (live_in to from (shown before)) (held before)) now (Ok active)
    unfolding append_all nothing
    copying-end past =
        k.follows now (Ok active)
        (subst (λ (es : List Entry). Did now (append_all (blocks_of now.geometry) to es (held now)) now (Ok active))
        (sym (chosen-end (live_flags_in to from (shown before)) (view_at (shown before) from).entries flags-count n past))
        (did_none now active))

    pub gathered : Gathered to before now active
    gathered = record { told = k.told; room = within-done (blocks_of before.geometry) (scan_of active.scan) k.undone; others = k.others }

    module _ (here : n < length (view_at (shown before) from).entries) where
      -- entry n is no live value
      pub copying-passed : get_or (live_flags_in to from (shown before)) n false ≡ false → Copying from to before now active (n + 1)
      copying-passed dead =
          let same : live_from (shown before) from to n ≡ live_from (shown before) from to (n + 1) =
          chosen-passed (live_flags_in to from (shown before)) (view_at (shown before) from).entries flags-count n no_entry here dead in
          record {
            geometry = k.geometry;
            told = k.told;
            undone = k.undone;
            others = k.others;
            fits = subst (λ (es : List Entry). active.scan.needs + needs_of es ≤ blocks_of before.geometry - kept_from_values) same k.fits;
            follows = λ after r did.
                k.follows after r (subst (λ (es : List Entry). Did now (append_all (blocks_of now.geometry) to es (held now)) after r) (sym same) did);
          }

      -- entry n is one
      module _ (inside : from < sectors_of before.geometry) (target : to < sectors_of before.geometry) (apart : from ≡ to → ⊥) (live : get_or (live_flags_in to from (shown before)) n false ≡ true) where
        stays : view_at (shown now) from ≡ view_at (shown before) from
        stays = k.others from apart

        -- both sectors are still those of the image
        pub still-inside : (s : ℕ) → s < sectors_of before.geometry → s < sectors_of now.geometry
        still-inside s h = omega (arith, ap sectors_of k.geometry)

        pub still-here : n < length (view_at (shown now) from).entries
        still-here = subst (λ (v : View). n < length v.entries) (sym stays) here

        next : live_from (shown before) from to n ≡ entry_in (shown now) from n ∷ live_from (shown before) from to (n + 1)
        next =
            chosen-here (live_flags_in to from (shown before)) (view_at (shown before) from).entries flags-count n no_entry here live
            ∙ ap (λ (v : View). get_or v.entries n no_entry ∷ live_from (shown before) from to (n + 1)) (sym stays)

        pub live-valued : is_value (entry_in (shown now) from n).head ≡ true
        unfolding live_flags_in
        live-valued =
            let es : List Entry = (view_at (shown before) from).entries in
            let later : List Entry = drop (suc n) es ++ entries_in (newer_than to from (shown before)) in
            let e : Entry = get_or es n no_entry in
            let flag = sym (live-flag es (entries_in (newer_than to from (shown before))) n no_entry here) ∙ live in
            ap (λ (v : View). is_value (get_or v.entries n no_entry).head) stays
            ∙ (both_true (is_value e.head) (not (is_renewed e.head later)) flag).0

        sum : needs_of (live_from (shown before) from to n) ≡ need_of (entry_in (shown now) from n).head + needs_of (live_from (shown before) from to (n + 1))
        unfolding needs_of
        sum = ap needs_of next

        pub live-within : is_within (blocks_of now.geometry) (scan_of active.scan) (entry_in (shown now) from n).head ≡ true
        live-within =
            within-value (blocks_of now.geometry) (scan_of active.scan) (entry_in (shown now) from n).head live-valued (omega (arith, k.fits, sum, ap blocks_of k.geometry))

        proper : IsProper (entry_in (shown now) from n)
        proper = each_at (proper-view now.geometry.sound.blocks_from (whole_image now) (still-inside from inside)) n no_entry still-here

        -- its copy was cut
        pub copying-cut : {after : Writer} {e : Cut} {r : Result Active Cut}
            → Did {T = Active} now (append (blocks_of now.geometry) to (entry_in (shown now) from n) (held now)) after (Err e) → is_err r ≡ true
            → Did before (append_all (blocks_of before.geometry) to (live_in to from (shown before)) (held before)) after r
        unfolding append_all
        copying-cut {after} {r = r} did cut =
            k.follows after r
            (subst (λ (es : List Entry). Did now (append_all (blocks_of now.geometry) to es (held now)) after r) (sym next)
            (did-and-then-cut (append (blocks_of now.geometry) to (entry_in (shown now) from n)) (append_all (blocks_of now.geometry) to (live_from (shown before) from to (n + 1))) (held now) did cut))

        module _ {after : Writer} {active' : Active} (did : Did now (append (blocks_of now.geometry) to (entry_in (shown now) from n) (held now)) after (Ok active')) where
          -- it was made
          pub copying-more : active' ≡ with_entry active (entry_in (shown now) from n).head → Copying from to before after active' (n + 1)
          unfolding append_all after
          copying-more counted =
              let e : Entry = entry_in (shown now) from n in
              let in-now : to < sectors_of now.geometry = still-inside to target in
              let lies = append-lies now in-now k.told proper live-within in
              let more : active'.scan.needs ≡ active.scan.needs + need_of e.head = ap (λ (x : Active). x.scan.needs) counted in
              record {
                geometry = did.geometry ∙ k.geometry;
                told = counted ∙ appended-active now in-now k.told proper live-within did;
                undone = ap (λ (x : Active). x.scan.done) counted ∙ value-undone (scan_of active.scan) e.head live-valued k.undone;
                others = λ t other. appended-others now in-now k.told proper live-within did t other ∙ k.others t other;
                fits = omega (arith, more, sum, k.fits);
                follows = λ last r rest.
                    k.follows last r
                    (subst (λ (es : List Entry). Did now (append_all (blocks_of now.geometry) to es (held now)) last r) (sym next)
                    (did-and-then (append (blocks_of now.geometry) to e) (λ (g : Geometry). append_all (blocks_of g) to (live_from (shown before) from to (n + 1))) lies did rest));
              }
