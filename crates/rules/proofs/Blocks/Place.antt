-- Where a reading stands: data blocks, needs and entries balance, so that entries and data never meet.
use Rattle.std.specs.Prelude.{if◌then◌else◌}
use mathlib.Core.Path.{◌≡◌, refl, sym, ap, ◌∙◌, subst}
use mathlib.Core.Bool.{Bool, true, false, not, false≢true, or-false}
use mathlib.Core.List.{List, []}
use mathlib.Core.Logic.{◌⊎◌, inl, inr, ⊎_elim}
use Prim.Native.Nat.{ℕ, zero, suc, ◌+◌, ◌-◌, ◌<◌, ◌≤◌}
use native.Mathlib.Nat.{not-suc-le-zero}
use native.Mathlib.Omega.{arith}
use lib.ListN.{get_or}
use borrow.Author.Tests.{leb-true}
use Rattle.rules.specs.Ground.{Sector, kept_from_values, kept_from_deletions}
use Rattle.rules.specs.Look.{Head, done, deletion, value, Scan, start, after, data_blocks, need_of, data_of, is_done, is_within, Verdict, entry, blank, other_cycle, wrong_check, wrong_form, over_limit, look, is_entry}
use Rattle.rules.specs.Reading.{Entry, entry_at, entries_below, entries_of, after_all, end_block, end_verdict}
use Rattle.rules.proofs.Format.Look.{look-entry}
use Rattle.rules.proofs.Blocks.Reading.{entries-more, entries-end, Took, took-none, took_more, took-down}

-- What holds before block p-1 is looked at, in a sector that was read from block B-3 on.
pub record Place (B p : ℕ) (scan : Scan) : Type 0 where
  pub balance : scan.data_end + B ≡ scan.needs + (if scan.done then 1 else 0) + p + 2
  pub room : scan.needs + 4 ≤ B

at_most_one : (b : Bool) → (if b then 1 else 0) ≤ 1
at_most_one true = omega arith
at_most_one false = omega arith

pub place-start : (B : ℕ) → 8 ≤ B → Place B (B - 2) start
unfolding start
place-start B h = record { balance = (omega arith); room = omega arith }

-- so there is a block left, above the data in use
pub place-data : {B p : ℕ} {scan : Scan} → Place B p scan → scan.data_end < p
place-data {scan = scan} place = omega (arith, place, at_most_one scan.done)

pub place-step : {B p : ℕ} {scan : Scan} (head : Head) → is_within B scan head ≡ true → Place B (suc p) scan → Place B p (after scan head)
unfolding after is_within need_of data_of is_done
place-step {B} {p} {scan} done within place = go scan.done refl
  where
    go : (b : Bool) → scan.done ≡ b → Place B p (after scan done)
    go true same = absurd (false≢true (sym (ap not same) ∙ within))
    go false same =
        let before : ◌≡◌ {A = ℕ} (if scan.done then 1 else 0) 0 = simp same in
        record { balance = simp same (omega (arith, place.balance, before)); room = omega (arith, place) }
place-step {B} {scan = scan} (deletion id) within place =
    record { balance = simp or-false (omega (arith, place.balance)); room = omega (arith, place, leb-true (scan.needs + 1) (B - kept_from_deletions) within) }
place-step {B} {scan = scan} (value id len) within place =
    record { balance = simp or-false (omega (arith, place.balance)); room = omega (arith, place, leb-true (scan.needs + (1 + data_blocks len)) (B - kept_from_values) within) }

-- A block is an entry or it is none.
pub verdict-cases : (v : Verdict) → ((head : Head) × (v ≡ entry head)) ⊎ (is_entry v ≡ false)
unfolding is_entry
verdict-cases (entry head) = inl (head, refl)
verdict-cases blank = inr refl
verdict-cases other_cycle = inr refl
verdict-cases wrong_check = inr refl
verdict-cases wrong_form = inr refl
verdict-cases over_limit = inr refl

-- A whole reading, from below block p: the entries taken, and the block that ended it, which is no entry.
pub record Reading (B cycle : ℕ) (sector : Sector) (p : ℕ) (scan : Scan) (es : List Entry) : Type 0 where
  pub last : ℕ
  pub took : Took B cycle sector p scan es (suc last)
  pub ended : is_entry (look B cycle (after_all scan es) (get_or sector last [])) ≡ false
  pub place : Place B (suc last) (after_all scan es)

pub reading : (B cycle : ℕ) (sector : Sector) (p : ℕ) (scan : Scan) → Place B p scan → Reading B cycle sector p scan (entries_below B cycle sector p scan)
unfolding after_all entry_at
reading B cycle sector zero scan place = absurd (not-suc-le-zero (place-data place))
reading B cycle sector (suc p) scan place =
    ⊎_elim
    (λ found.
    let head : Head = found.0 in
    let here : look B cycle scan (get_or sector p []) ≡ entry head = found.1 in
    let rest : _ = reading B cycle sector p (after scan head) (place-step head (look-entry B cycle scan (get_or sector p []) here).within place) in
    subst (λ (es : List Entry). Reading B cycle sector (suc p) scan es) (sym (entries-more B cycle sector p scan here))
    (record { last = rest.last; took = took_more here refl rest.took; ended = rest.ended; place = rest.place }))
    (λ ended.
    subst (λ (es : List Entry). Reading B cycle sector (suc p) scan es) (sym (entries-end B cycle sector p scan ended))
    (record { last = p; took = took-none; ended = ended; place = place }))
    (verdict-cases (look B cycle scan (get_or sector p [])))

-- The reading of a sector.
module _ (B cycle : ℕ) (sector : Sector) (enough : 8 ≤ B) where
  pub reading-of : Reading B cycle sector (B - 2) start (entries_of B cycle sector)
  unfolding entries_of
  reading-of = reading B cycle sector (B - 2) start (place-start B enough)

  -- the block that ended it
  pub reading-last : reading-of.last ≡ end_block B (entries_of B cycle sector)
  unfolding end_block
  reading-last = let down : _ = took-down reading-of.took in omega (arith, down)

  pub end_none : is_entry (end_verdict B cycle sector (entries_of B cycle sector)) ≡ false
  unfolding end_verdict
  end_none = ap (λ (b : ℕ). is_entry (look B cycle (after_all start (entries_of B cycle sector)) (get_or sector b []))) (sym reading-last) ∙ reading-of.ended
