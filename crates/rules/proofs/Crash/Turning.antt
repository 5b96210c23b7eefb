-- A turn, cut anywhere and whole: at every cut the image stands and tells the same, and whole the ring has moved on.
use mathlib.Core.Path.{◌≡◌, refl, sym, ap, subst, ◌∙◌}
use mathlib.Core.Bool.{true, false, not, false≢true}
use mathlib.Core.List.{List, [], ◌∷◌, ◌++◌, append_assoc, append-nil, head-eq_of_cons-eq, tail-eq_of_cons-eq, nil≢cons}
use mathlib.Core.Option.{Option}
use Prim.Native.Nat.{ℕ, ◌+◌, ◌-◌, ◌<◌, ◌≤◌}
use native.Mathlib.Omega.{arith}
use lib.ListN.{length, get_or}
use borrow.Author.Tests.{le-leb}
use Rattle.rules.specs.Notation.{Each, empty, each, concat, select}
use Rattle.rules.specs.Ground.{Image, kept_from_values}
use Rattle.rules.specs.Look.{Head, done, deletion, value, Scan, start, is_done, need_of, is_within}
use Rattle.rules.specs.Reading.{Entry, View, after_all}
use Rattle.rules.specs.Meaning.{views_of, view_at, next, all_but, is_unfinished, has_done, is_value, live_among, live_each, entries_in, needs_of, lookup}
use Rattle.rules.specs.Stores.{Plan, apply, ◌and_then◌, append, append_all, reopen, close_sector, done_entry, survivors, finish_turn, turn}
use Rattle.rules.proofs.Terms.{IsImage, IsProper, changed, added_view}
use Rattle.rules.proofs.Basics.Notation.{both_true}
use Rattle.rules.proofs.Crash.Cuts.{Goes, goes-nothing, goes-atomic, goes_same, goes_then}
use Rattle.rules.proofs.Ring.History.{entries_each, entries_in-each}
use Rattle.rules.proofs.Ring.Order.{next-lt}
use Rattle.rules.proofs.Ring.Changes.{value-valued}
use Rattle.rules.proofs.Ring.Live.{live-needs, live-each, live-cases, live-is, live-empty}
use Rattle.rules.proofs.Ring.Turns.{needs-append}
use Rattle.rules.proofs.Blocks.Counting.{needs-all, done_all}
use Rattle.rules.proofs.Blocks.OnImage.{apply-image, proper-view, counted-view}
use Rattle.rules.proofs.Blocks.Append.{append-atomic}
use Rattle.rules.proofs.Blocks.Reopen.{close-atomic, reopen-atomic}
use Rattle.rules.proofs.Blocks.Made.{done-proper}
use Rattle.rules.proofs.Crash.Standing.{turned, ring-next, Stands, Rests, Copies, Finished, rests-stand, copies-stand, finished-stands}
use Rattle.rules.proofs.Crash.Shifts.{close-shift, copy-shift, done-shift, reopen-shift}

-- a value counts while the needs are within its limit; a done while there is none yet
pub within-value : (B : ℕ) (scan : Scan) (head : Head) → is_value head ≡ true → scan.needs + need_of head ≤ B - kept_from_values → is_within B scan head ≡ true
unfolding is_within is_value
within-value B scan done v h = absurd (false≢true v)
within-value B scan (deletion id) v h = absurd (false≢true v)
within-value B scan (value id len) v h = le-leb _ _ h

value-plain : (head : Head) → is_value head ≡ true → is_done head ≡ false
unfolding is_value is_done
value-plain done v = sym v
value-plain (deletion id) v = refl
value-plain (value id len) v = refl

room-for-done : (B : ℕ) (v : View) → is_unfinished v ≡ true → is_within B (after_all start v.entries) done_entry.head ≡ true
unfolding is_unfinished has_done is_within done_entry
room-for-done B v e =
    ap not (done_all v.entries) ∙ (both_true (not v.closed) _ e).1

needs-none : needs_of [] ≡ 0
unfolding needs_of
needs-none = refl

pub live-values : (es later : List Entry) → Each (λ (e : Entry). is_value e.head ≡ true) (live_among es later)
live-values [] later = subst (Each (λ (e : Entry). is_value e.head ≡ true)) (sym (live-empty later)) empty
live-values (e ∷ es) later =
    live-cases e es later (Each (λ (x : Entry). is_value x.head ≡ true))
    (λ live. let is = live-is e (es ++ later) live in each (value-valued is.id e is.valued) (live-values es later))
    (λ dead. live-values es later)

-- the live values of the oldest sector of a ring
live-head : (vs : List View) {o : List Entry} {others : List (List Entry)} → entries_each vs ≡ o ∷ others → get_or (live_each vs) 0 [] ≡ live_among o (concat others)
unfolding live_each
live-head [] e = absurd (nil≢cons e)
live-head (v ∷ vs) e =
    ap (λ (es : List Entry). live_among es (entries_in vs)) (head-eq_of_cons-eq e)
    ∙ ap (live_among _) (entries_in-each vs ∙ ap concat (tail-eq_of_cons-eq e))

module _ (B S : ℕ) (big : 8 ≤ B) (most : B ≤ 4096) (two : 2 ≤ S) (T : ℕ → Option Entry) where
  -- the image that a step leaves
  pub image-after : {plan : Plan} (im : Image) {during after : List View → Type 0} → IsImage B S im → Goes B S plan im during after → IsImage B S (apply (plan im) im)
  image-after {plan} im ok g = apply-image g.inside ok

  -- one more entry in the unfinished sector
  add_goes : (e : Entry) (im : Image) {u : ℕ} {ring : List (List Entry)} {copied : List Entry} {after : List View → Type 0}
      → ((id : ℕ) → lookup id (concat ring) ≡ T id) → IsImage B S im → u < S → Copies S u ring copied (views_of B im)
      → IsProper e → is_within B (after_all start (view_at (views_of B im) u).entries) e.head ≡ true
      → after (changed (added_view e) u (views_of B im))
      → Goes B S (append B u e) im (Stands S T) after
  add_goes e im {u} t ok here r proper within a = goes-atomic B S im (append-atomic big most ok here proper within) (copies-stand S T t r) a

  -- copies of values whose needs fit
  copies-go : (es : List Entry) (im : Image) {u : ℕ} {ring : List (List Entry)} {copied : List Entry}
      → ((id : ℕ) → lookup id (concat ring) ≡ T id) → IsImage B S im → u < S → Copies S u ring copied (views_of B im)
      → Each IsProper es → Each (λ (e : Entry). is_value e.head ≡ true) es → needs_of copied + needs_of es ≤ B - kept_from_values
      → Goes B S (append_all B u es) im (Stands S T) (Copies S u ring (copied ++ es))
  unfolding append_all needs_of
  copies-go [] im {u} {ring} {copied} t ok here r proper values fit =
      goes-nothing B S im (subst (λ (es : List Entry). Copies S u ring es (views_of B im)) (sym (append-nil copied)) r)
  copies-go (e ∷ es) im {u} {ring} {copied} t ok here r (each p proper) (each v values) fit =
      let scan : Scan = after_all start (view_at (views_of B im) u).entries in
      let so_far : scan.needs ≡ needs_of copied = needs-all (view_at (views_of B im) u).entries ∙ ap needs_of r.made in
      let first : Goes B S (append B u e) im (Stands S T) (Copies S u ring (copied ++ (e ∷ []))) =
      add_goes e im t ok here r p (within-value B scan e.head v (omega arith)) (copy-shift S two e (value-plain e.head v) r) in
      let sum : needs_of (copied ++ (e ∷ [])) ≡ needs_of copied + needs_of (e ∷ []) = needs-append copied (e ∷ []) in
      let rest : Goes B S (append_all B u es) (apply (append B u e im) im) (Stands S T) (Copies S u ring ((copied ++ (e ∷ [])) ++ es)) =
      copies-go es (apply (append B u e im) im) t (image-after im ok first) here first.whole proper values (omega arith) in
      subst (λ (l : List Entry). Goes B S (append B u e and_then append_all B u es) im (Stands S T) (Copies S u ring l)) (append_assoc copied (e ∷ []) es)
      (goes_then B S im (append B u e) (append_all B u es) first rest)

  -- the copies, done, and the reopening of the collected sector
  pub finish-goes : (im : Image) {u : ℕ} {o : List Entry} {others : List (List Entry)}
      → ((id : ℕ) → lookup id (concat (o ∷ others)) ≡ T id) → IsImage B S im → u < S → Copies S u (o ∷ others) [] (views_of B im)
      → Goes B S (finish_turn B S u) im (Stands S T) (Rests S u (turned (o ∷ others)))
  unfolding finish_turn survivors
  finish-goes im {u} {o} {others} t ok here r =
      goes_same B S im (append_all B u c and_then append B u done_entry and_then reopen B (next S u)) (finish_turn B S u)
      (ap (λ (es : List Entry). (append_all B u es and_then append B u done_entry and_then reopen B (next S u)) im) (sym same))
      (goes_then B S im (append_all B u c) (append B u done_entry and_then reopen B (next S u)) copying
      (goes_then B S im₁ (append B u done_entry) (reopen B (next S u)) finishing reopening))
    where
      c : List Entry
      c = live_among o (concat others)

      same : get_or (live_each (all_but u (views_of B im))) 0 [] ≡ c
      same = live-head (all_but u (views_of B im)) r.held

      views : List View
      views = views_of B im

      sized : length views ≡ S
      sized = r.sized

      beyond : next S u < S
      beyond = next-lt S u here

      oldest : (view_at views (next S u)).entries ≡ o
      oldest =
          subst (λ (n : ℕ). (view_at views (next n u)).entries ≡ o) sized
          (ring-next views u (subst (λ (n : ℕ). 2 ≤ n) (sym sized) two) (subst (λ (n : ℕ). u < n) (sym sized) here) r.held).0

      proper : Each IsProper c
      proper = live-each IsProper o (concat others) (subst (Each IsProper) oldest (proper-view big ok beyond))

      fit : needs_of c ≤ B - kept_from_values
      fit =
          let values : needs_of (select (λ (e : Entry). is_value e.head) o) ≤ B - kept_from_values =
          subst (λ (es : List Entry). needs_of (select (λ (e : Entry). is_value e.head) es) ≤ B - kept_from_values) oldest (counted-view big ok beyond).values in
          omega (arith, live-needs o (concat others))

      copying : Goes B S (append_all B u c) im (Stands S T) (Copies S u (o ∷ others) c)
      copying = copies-go c im t ok here r proper (live-values o (concat others)) (omega (arith, needs-none, fit))

      im₁ : Image
      im₁ = apply (append_all B u c im) im

      ok₁ : IsImage B S im₁
      ok₁ = image-after im ok copying

      finishing : Goes B S (append B u done_entry) im₁ (Stands S T) (Finished S u (o ∷ others) c)
      finishing = add_goes done_entry im₁ t ok₁ here copying.whole done-proper (room-for-done B (view_at (views_of B im₁) u) copying.whole.is.unfinished) (done-shift S two copying.whole)

      im₂ : Image
      im₂ = apply (append B u done_entry im₁) im₁

      reopening : Goes B S (reopen B (next S u)) im₂ (Stands S T) (Rests S u (turned (o ∷ others)))
      reopening =
          goes-atomic B S im₂ (reopen-atomic big (image-after im₁ ok₁ finishing) beyond)
          (finished-stands S T two t finishing.whole)
          (reopen-shift S two finishing.whole)

  -- a turn from rest
  pub turn-goes : (im : Image) {w : ℕ} {o : List Entry} {others : List (List Entry)}
      → ((id : ℕ) → lookup id (concat (o ∷ others)) ≡ T id) → IsImage B S im → w < S → Rests S w (o ∷ others) (views_of B im)
      → Goes B S (turn B S w) im (Stands S T) (Rests S (next S w) (turned (o ∷ others)))
  unfolding turn
  turn-goes im {w} {o} {others} t ok here r =
      goes_then B S im (close_sector B w) (finish_turn B S (next S w)) closing
      (finish-goes (apply (close_sector B w im) im) t (image-after im ok closing) (next-lt S w here) closing.whole)
    where
      closing : Goes B S (close_sector B w) im (Stands S T) (Copies S (next S w) (o ∷ others) [])
      closing = goes-atomic B S im (close-atomic big ok here) (rests-stand S T t r) (close-shift S two r)
