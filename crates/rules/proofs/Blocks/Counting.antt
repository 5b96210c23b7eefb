-- What the entries of a sector come to: their needs, their data blocks, and how far down they reach.
use Rattle.std.specs.Prelude.{if◌then◌else◌}
use mathlib.Core.Path.{◌≡◌, refl, sym, ◌∙◌}
use mathlib.Core.Bool.{Bool, true, false, ◌||◌, false≢true, or_assoc, or-false}
use mathlib.Core.List.{List, [], ◌∷◌}
use Prim.Native.Nat.{ℕ, suc, ◌+◌, ◌-◌, ◌≤◌}
use native.Mathlib.Omega.{arith}
use lib.ListN.{length, get_or}
use borrow.Author.Tests.{leb-true}
use Rattle.rules.specs.Notation.{any, select}
use Rattle.rules.specs.Ground.{Sector, kept_from_values}
use Rattle.rules.specs.Look.{Head, done, deletion, value, Scan, start, after, data_blocks, need_of, is_done, is_within}
use Rattle.rules.specs.Reading.{Entry, entries_of, after_all, end_block}
use Rattle.rules.specs.Meaning.{is_value, needs_of}
use Rattle.rules.proofs.Format.Look.{look-entry}
use Rattle.rules.proofs.Blocks.Reading.{Took, took-none, took_more, took-down}
use Rattle.rules.proofs.Blocks.Place.{place-data, Reading, reading-of, reading-last}

-- the scan's sums are those of the entries
needs-from : (scan : Scan) (es : List Entry) → (after_all scan es).needs ≡ scan.needs + needs_of es
unfolding after_all after needs_of
needs-from scan [] = omega arith
needs-from scan (e ∷ es) = let rest : _ = needs-from (after scan e.head) es in omega (arith, rest)

done-from : (scan : Scan) (es : List Entry) → (after_all scan es).done ≡ (scan.done || any (λ (e : Entry). is_done e.head) es)
unfolding after_all after any
done-from scan [] = sym (or-false scan.done)
done-from scan (e ∷ es) = done-from (after scan e.head) es ∙ or_assoc scan.done (is_done e.head) (any (λ (x : Entry). is_done x.head) es)

pub needs-all : (es : List Entry) → (after_all start es).needs ≡ needs_of es
unfolding start
needs-all es = let from : _ = needs-from start es in omega (arith, from)

pub done_all : (es : List Entry) → (after_all start es).done ≡ any (λ (e : Entry). is_done e.head) es
unfolding start
done_all es = done-from start es

-- A value counts only where it leaves five blocks.
value_room : (B : ℕ) (scan : Scan) (head : Head) → is_value head ≡ true → is_within B scan head ≡ true → scan.needs + need_of head + 5 ≤ B
unfolding is_value is_within need_of
value_room B scan done is within = absurd (false≢true is)
value_room B scan (deletion id) is within = absurd (false≢true is)
value_room B scan (value id len) is within = omega (arith, leb-true (scan.needs + (1 + data_blocks len)) (B - kept_from_values) within)

-- so the values among the entries leave them: v is the need of those before
values-from : {B cycle : ℕ} {sector : Sector} {p q : ℕ} {scan : Scan} {es : List Entry} (v : ℕ) → Took B cycle sector p scan es q
    → v + 5 ≤ B → v ≤ scan.needs → v + needs_of (select (λ (e : Entry). is_value e.head) es) + 5 ≤ B
unfolding select needs_of after
values-from v took-none few less = omega arith
values-from {B} {cycle} {sector} v (took_more {p = p} {scan = scan} {e = e} {es = es} here at rest) few less = go (λ w. values-from w rest) (is_value e.head) refl
  where
    go : ((w : ℕ) → w + 5 ≤ B → w ≤ scan.needs + need_of e.head → w + needs_of (select (λ (x : Entry). is_value x.head) es) + 5 ≤ B)
        → (b : Bool) → is_value e.head ≡ b → v + needs_of (select (λ (x : Entry). is_value x.head) (e ∷ es)) + 5 ≤ B
    go ih false same = simp same (ih v few (omega arith))
    go ih true same =
        let room : scan.needs + need_of e.head + 5 ≤ B = value_room B scan e.head same (look-entry B cycle scan (get_or sector p []) here).within in
        let sum : _ = ih (v + need_of e.head) (omega arith) (omega arith) in
        simp same (omega (arith, sum))

-- What the entries of a sector come to: each takes a block of its own, and what it needs beyond that is data; a done needs
-- nothing; a block is left that ended the reading, and it is no data in use.
pub record Counted (B : ℕ) (es : List Entry) : Type 0 where
  pub balance : (after_all start es).data_end + length es ≡ (after_all start es).needs + (if (after_all start es).done then 1 else 0)
  pub few : length es + 3 ≤ B
  pub room : (after_all start es).needs + 4 ≤ B
  pub below : (after_all start es).data_end ≤ end_block B es
  pub values : needs_of (select (λ (e : Entry). is_value e.head) es) ≤ B - kept_from_values

pub counted : (B cycle : ℕ) (sector : Sector) → 8 ≤ B → Counted B (entries_of B cycle sector)
unfolding start
counted B cycle sector enough =
    let all : Reading B cycle sector (B - 2) start (entries_of B cycle sector) = reading-of B cycle sector enough in
    let down : suc all.last + length (entries_of B cycle sector) ≡ B - 2 = took-down all.took in
    record {
      balance = omega (arith, all.place.balance, down);
      few = omega arith;
      room = all.place.room;
      below = omega (arith, place-data all.place, reading-last B cycle sector enough);
      values = omega (arith, values-from 0 all.took (omega arith) (omega arith));
    }
