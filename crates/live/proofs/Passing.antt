-- The sectors newer than one, passed one after the other round the ring up to the one that is ignored.
-- Assumes nothing.
use Rattle.std.specs.Prelude.{if◌then◌else◌}
use mathlib.Core.Path.{◌≡◌, sym, ap, ◌∙◌}
use mathlib.Core.List.{List, [], ◌∷◌, ◌++◌, append_assoc, append-nil}
use mathlib.Core.Logic.{⊎_elim, by_cases}
use Prim.Native.Nat.{ℕ, suc, ◌+◌, ◌-◌, ◌<◌, ◌≤◌}
use native.Mathlib.Decide.{dec_lt}
use native.Mathlib.Omega.{arith}
use lib.Dec.{ltb}
use lib.ListN.{length, get_or, drop, drop_of_length-le}
use lib.Seq.{drop-cons}
use borrow.Author.Tests.{lt-ltb, le-ltb}
use Rattle.rules.specs.Reading.{Entry, View}
use Rattle.rules.specs.Meaning.{no_view, view_at, next, ring_sector, all_but, entries_in, newer_than}
use Rattle.rules.proofs.Ring.Order.{next-cases, length-all_but}
use Rattle.rules.proofs.Ring.Newest.{ring-lt, ring-up, ring-other, ring-view, RingPlace, ring-place}

-- u itself has the place behind all others
ring-ignored : (S u : ℕ) → u < S → ring_sector S u (S - 1) ≡ u
unfolding ring_sector
ring-ignored S u here = simp (le-ltb (u + 1 + (S - 1)) S (omega arith)) (omega arith)

-- ---- how many sectors are left from t up to u

unfoldable pub sectors_left : (S u t : ℕ) → ℕ
sectors_left S u t = if ltb u t then S + u - t else u - t

left_behind : (S u t : ℕ) → u < t → sectors_left S u t ≡ S + u - t
unfolding sectors_left
left_behind S u t h = rw (lt-ltb u t h)

left-before : (S u t : ℕ) → t ≤ u → sectors_left S u t ≡ u - t
unfolding sectors_left
left-before S u t h = rw (le-ltb u t h)

pub fewer-left : (S u t : ℕ) → u < S → t < S → (t ≡ u → ⊥) → sectors_left S u (next S t) < sectors_left S u t
fewer-left S u t here inside other =
    ⊎_elim
    (λ last. omega (arith, left_behind S u t (omega arith), left-before S u (next S t) (omega arith)))
    (λ below.
    by_cases (dec_lt u t)
    (λ h. omega (arith, left_behind S u t h, left_behind S u (next S t) (omega arith)))
    (λ h. omega (arith, left-before S u t (omega arith), left-before S u (next S t) (omega arith))))
    (next-cases S t)

-- ---- the sectors passed

-- Sector t comes next; the entries of the newer sectors before it are `passed`.
pub record Passing (u s t : ℕ) (views : List View) (passed : List Entry) : Type 0 where
  pub place : ℕ
  pub low : place < length views
  pub at : t ≡ ring_sector (length views) u place
  pub left : passed ++ entries_in (drop place (all_but u views)) ≡ entries_in (newer_than u s views)

module _ {u s : ℕ} {views : List View} (here : u < length views) where
  pub passing-start : s < length views → (s ≡ u → ⊥) → {t : ℕ} → t ≡ next (length views) s → Passing u s t views []
  passing-start inside other {t} after =
      let p : RingPlace u s views = ring-place u views here s inside other in
      let up : next (length views) s ≡ ring_sector (length views) u (suc p.place) =
      ap (next (length views)) (sym p.at) ∙ ring-up (length views) u here p.place (omega (arith, p.low)) in
      record { place = suc p.place; low = omega (arith, p.low); at = after ∙ up; left = ap entries_in p.newer }

  module _ {t : ℕ} {passed : List Entry} (k : Passing u s t views passed) where
    pub passing-inside : t < length views
    passing-inside = rw k.at (ring-lt (length views) u here k.place k.low)

    -- until it is u
    pub passing-end : t ≡ u → passed ≡ entries_in (newer_than u s views)
    unfolding entries_in
    passing-end is =
        by_cases (dec_lt (suc k.place) (length views))
        (λ more. absurd (ring-other (length views) u here k.place more (sym k.at ∙ is)))
        (λ last.
        let none_left : drop k.place (all_but u views) ≡ [] =
        drop_of_length-le (all_but u views) {i = k.place} (omega (arith, length-all_but u views here)) in
        sym (append-nil passed) ∙ ap (λ (vs : List View). passed ++ entries_in vs) (sym none_left) ∙ k.left)

    module _ (other : t ≡ u → ⊥) where
      more_left : suc k.place < length views
      more_left =
          by_cases (dec_lt (suc k.place) (length views)) (λ more. more)
          (λ last.
          let end : k.place ≡ length views - 1 = omega (arith, k.low) in
          absurd (other (k.at ∙ ap (ring_sector (length views) u) end ∙ ring-ignored (length views) u here)))

      pub passing-next : {t' : ℕ} → t' ≡ next (length views) t → Passing u s t' views (passed ++ (view_at views t).entries)
      unfolding entries_in
      passing-next {t'} after =
          let p : ℕ = k.place in
          let rest : List View = drop (suc p) (all_but u views) in
          let view : get_or (all_but u views) p no_view ≡ view_at views t =
          ring-view u views here p (omega (arith, more_left)) ∙ ap (view_at views) (sym k.at) in
          let first : drop p (all_but u views) ≡ view_at views t ∷ rest =
          drop-cons (all_but u views) p no_view (omega (arith, more_left, length-all_but u views here)) ∙ ap (λ (v : View). v ∷ rest) view in
          record {
            place = suc p;
            low = more_left;
            at = after ∙ ap (next (length views)) k.at ∙ ring-up (length views) u here p more_left;
            left = append_assoc passed (view_at views t).entries (entries_in rest) ∙ ap (λ (vs : List View). passed ++ entries_in vs) (sym first) ∙ k.left;
          }
