-- The turns of a change, and the entry after them: there is room for it in the sector that is active then, and the stores of both are
-- those of the change. And the limit that decides it.
-- Assumes nothing.
use mathlib.Core.Path.{◌≡◌, refl, sym, ap, subst, ◌∙◌}
use mathlib.Core.Bool.{true, false, false≢true}
use mathlib.Core.List.{List}
use mathlib.Core.Option.{some}
use Prim.Native.Nat.{ℕ, ◌+◌, ◌≤◌, ◌<◌}
use native.Mathlib.Omega.{arith}
use lib.Dec.{leb}
use borrow.Author.Tests.{le-leb, leb-true, leb-false}
use Rattle.std.specs.Prelude.{Result, Ok, Err, is_err}
use Rattle.rules.specs.Notation.{Each, concat}
use Rattle.rules.specs.Look as rule
use Rattle.rules.specs.Look.{start, need_of, is_done, is_within}
use Rattle.rules.specs.Reading.{Entry, View, after_all}
use Rattle.rules.specs.Meaning.{at_rest, Is, state_of, view_at, next, all_but, lookup, needs_of}
use Rattle.rules.proofs.Blocks.Counting.{needs-all}
use Rattle.rules.specs.Stores.{append, turns, moved, least_turns, change}
use Rattle.rules.proofs.Ring.History.{entries_each}
use Rattle.rules.proofs.Ring.States.{state-is}
use Rattle.rules.proofs.Blocks.OnBytes.{Lies, inside-lie}
use Rattle.rules.proofs.Crash.Changing.{turns_go}
use Rattle.layout.specs.declared.Geometry.{Geometry}
use Rattle.layout.specs.Sizes.{Sound}
use Rattle.layout.specs.Geometry.{blocks_of, sectors_of}
use Rattle.layout.specs.Numbers.{sector_no}
use Rattle.entry.specs.Answer.{scan_of, limit_of}
use Rattle.image.specs.declared.active.Active.{Active}
use Rattle.image.specs.Answer.{active_as, views_in, Carries}
use Rattle.layout.specs.Options.{option_as}
use Rattle.image.proofs.Sectors.{views-count}
use Rattle.image.proofs.Laws.{rest-inside}
use Rattle.live.proofs.FitLaws.{room_after}
use Rattle.budget.specs.declared.Cut.{Cut}
use Rattle.budget.specs.declared.Writer.{Writer}
use Rattle.budget.specs.Budget.{held, shown, Did}
use Rattle.budget.proofs.Laws.{typed, whole_image, did-whole, did-shown, did-and-then, did-and-then-cut}

-- ---- the turns, and then the entry

module _ (writer : Writer) (w t : ℕ) (rest : state_of (shown writer) ≡ some (at_rest w)) where
  abbrev B : ℕ
  B = blocks_of writer.geometry

  abbrev S : ℕ
  S = sectors_of writer.geometry

  turns-lie : Each (Lies B S) (turns B S t w (held writer))
  unfolding Is
  turns-lie =
      let ring : List (List Entry) = entries_each (all_but (next S w) (shown writer)) in
      let sound : Sound (blocks_of writer.geometry) (sectors_of writer.geometry) = writer.geometry.sound in
      inside-lie
      (turns_go B S sound.blocks_from sound.blocks_to sound.sectors_from (λ id. lookup id (concat ring)) t (held writer)
      (λ id. refl)
      (whole_image writer)
      (rest-inside writer.geometry writer.image.now w rest)
      (record { sized = views-count writer.geometry writer.image.now; is = state-is (shown writer) (at_rest w) rest; held = refl })
      ).inside

  module _ {T : Type 0} {middle : Writer} {x : T} (did : Did writer (turns B S t w (held writer)) middle (Ok x)) {working : ℕ} (here : working ≡ moved S t w) where
    pub room-left : {active : Active} (need limit : ℕ) → least_turns need limit w (shown writer) ≡ some t
        → active ≡ active_as working (view_at (shown middle) working) → (scan_of active.scan).needs + need ≤ limit
    room-left need limit least known =
        let room : (after_all start (view_at (shown middle) (moved S t w)).entries).needs + need ≤ limit =
        subst (λ (vs : List View). (after_all start (view_at vs (moved S t w)).entries).needs + need ≤ limit)
        (sym (did-shown did (did-whole did turns-lie refl)))
        (room_after writer.geometry writer.image.now need limit w (ap option_as least) writer.backs (typed writer) rest) in
        rw (known, here) room

    pub change-did : {U : Type 0} (e : Entry) {after : Writer} {r : Result U Cut} → Did middle (append (blocks_of middle.geometry) working e (held middle)) after r
        → Did writer (change B S t w e (held writer)) after r
    unfolding change
    change-did e {after} {r} appended =
        did-and-then (turns B S t w) (λ (g : Geometry). append (blocks_of g) (moved S t w) e) turns-lie did
        (subst (λ (s : ℕ). Did middle (append (blocks_of middle.geometry) s e (held middle)) after r) here appended)

pub change-cut : {T U : Type 0} (writer : Writer) (w t : ℕ) (e : Entry) {middle : Writer} {cut : Cut} {r : Result U Cut}
    → Did {T = T} writer (turns (blocks_of writer.geometry) (sectors_of writer.geometry) t w (held writer)) middle (Err cut) → is_err r ≡ true
    → Did writer (change (blocks_of writer.geometry) (sectors_of writer.geometry) t w e (held writer)) middle r
unfolding change
change-cut writer w t e did cut =
    let B : ℕ = blocks_of writer.geometry in
    let S : ℕ = sectors_of writer.geometry in
    did-and-then-cut (turns B S t w) (append B (moved S t w) e) (held writer) did cut

-- ---- the limit of an entry that is no done

within-limit : (B : ℕ) (scan : rule.Scan) (h : rule.Head) → is_done h ≡ false → is_within B scan h ≡ leb (scan.needs + need_of h) (limit_of B h)
unfolding is_within is_done limit_of
within-limit B scan rule.done plain = absurd (false≢true (sym plain))
within-limit B scan (rule.deletion id) plain = refl
within-limit B scan (rule.value id len) plain = refl

pub fits-within : (B : ℕ) (scan : rule.Scan) (h : rule.Head) → is_done h ≡ false → scan.needs + need_of h ≤ limit_of B h → is_within B scan h ≡ true
fits-within B scan h plain fits = within-limit B scan h plain ∙ le-leb (scan.needs + need_of h) (limit_of B h) fits

pub within-fits : (B : ℕ) (scan : rule.Scan) (h : rule.Head) → is_done h ≡ false → is_within B scan h ≡ true → scan.needs + need_of h ≤ limit_of B h
within-fits B scan h plain is = leb-true (scan.needs + need_of h) (limit_of B h) (sym (within-limit B scan h plain) ∙ is)

pub beyond-limit : (B : ℕ) (scan : rule.Scan) (h : rule.Head) → is_done h ≡ false → is_within B scan h ≡ false → limit_of B h < scan.needs + need_of h
beyond-limit B scan h plain not = leb-false (scan.needs + need_of h) (limit_of B h) (sym (within-limit B scan h plain) ∙ not)

-- the limit lies within the sector
pub limit-few : (B : ℕ) (h : rule.Head) → limit_of B h ≤ B
unfolding limit_of
limit-few B rule.done = omega arith
limit-few B (rule.deletion id) = omega arith
limit-few B (rule.value id len) = omega arith

-- ---- the needs of the active sector

pub active-needs : (g : Geometry) (bytes : List ℕ) {active : Active} → Carries g bytes active
    → active.scan.needs ≡ needs_of (view_at (views_in g bytes) (sector_no active.sector)).entries
active-needs g bytes {active} carried =
    ap (λ (x : Active). x.scan.needs) carried.told ∙ needs-all (view_at (views_in g bytes) (sector_no active.sector)).entries
