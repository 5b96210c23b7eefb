-- A search newest first: one entry down in a sector, and one sector down round the ring.
use mathlib.Core.Path.{◌≡◌, refl, sym, ap, ◌∙◌}
use mathlib.Core.Bool.{true, false}
use mathlib.Core.List.{List, [], ◌∷◌, ◌++◌, append_assoc}
use mathlib.Core.Logic.{◌⊎◌, inl, inr, ⊎_elim, by_cases}
use Prim.Native.Nat.{ℕ, suc, ◌+◌, ◌-◌, ◌<◌, ◌≤◌}
use native.Mathlib.Decide.{dec_lt}
use native.Mathlib.Omega.{arith}
use lib.Dec.{eqb}
use lib.ListN.{length, get_or, take, drop}
use lib.Seq.{take-suc, take_all}
use borrow.Author.Tests.{ne_eqb, eqb-true, eqb-false, lt-ltb, le-ltb}
use Rattle.rules.specs.Notation.{when}
use Rattle.rules.specs.Ground.{reserved_id}
use Rattle.rules.specs.Look.{Head, done, deletion, value}
use Rattle.rules.specs.Reading.{Entry, View}
use Rattle.rules.specs.Meaning.{no_view, view_at, next, previous, ring_sector, all_but, entries_in, is_named, is_value, lookup, newer_than, live_each, live_in}
use Rattle.rules.specs.Stores.{id_in}
use Rattle.rules.proofs.Basics.Notation.{if-cases}
use Rattle.rules.proofs.Ring.Order.{next-cases, length-all_but}
use Rattle.rules.proofs.Ring.History.{entries_in-last}
use Rattle.rules.proofs.Ring.LiveBySector.{view-behind, view-before, newer-behind, newer-before, live-behind, live-before}
use Rattle.rules.proofs.Ring.Changes.{lookup-other, lookup-named}

-- ---- down in a sector

-- A head names an ID where its own is that one; the reserved one, which a done has, is nobody's.
pub named-id : (id : ℕ) → (id ≡ reserved_id → ⊥) → (head : Head) → is_named id head ≡ eqb (id_in head) id
unfolding is_named id_in
named-id id user done = sym (ne_eqb reserved_id id (λ e. user (sym e)))
named-id id user (deletion i) = refl
named-id id user (value i len) = refl

-- Of the entries up to n and all that are older, entry n tells if it names the ID, and else the others do.
module _ (id : ℕ) (older es : List Entry) (n : ℕ) (d : Entry) (here : n < length es) where
  last_entry : older ++ take (suc n) es ≡ (older ++ take n es) ++ (get_or es n d ∷ [])
  last_entry = simp (take-suc es n d here, append_assoc)

  pub down-named : is_named id (get_or es n d).head ≡ true → lookup id (older ++ take (suc n) es) ≡ when (is_value (get_or es n d).head) (get_or es n d)
  down-named named = ap (lookup id) last_entry ∙ lookup-named id (older ++ take n es) (get_or es n d) named

  pub down-other : is_named id (get_or es n d).head ≡ false → lookup id (older ++ take (suc n) es) ≡ lookup id (older ++ take n es)
  down-other other = ap (lookup id) last_entry ∙ lookup-other id (older ++ take n es) (get_or es n d) other

-- ---- down round the ring

-- behind the spare, and from 0 on
ring-low : (S u k : ℕ) → u + 1 + k < S → ring_sector S u k ≡ u + 1 + k
unfolding ring_sector
ring-low S u k h = simp (lt-ltb (u + 1 + k) S h)

ring-high : (S u k : ℕ) → S ≤ u + 1 + k → ring_sector S u k ≡ u + 1 + k - S
unfolding ring_sector
ring-high S u k h = simp (le-ltb (u + 1 + k) S h)

ring-cases : (S u k : ℕ) → ((u + 1 + k < S) × (ring_sector S u k ≡ u + 1 + k)) ⊎ ((S ≤ u + 1 + k) × (ring_sector S u k ≡ u + 1 + k - S))
ring-cases S u k =
    by_cases (dec_lt (u + 1 + k) S) (λ low. inl (low, ring-low S u k low)) (λ high. inr (omega arith, ring-high S u k (omega arith)))

pub previous-cases : (S s : ℕ) → ((s ≡ 0) × (previous S s ≡ S - 1)) ⊎ ((s ≡ 0 → ⊥) × (previous S s ≡ s - 1))
unfolding previous
previous-cases S s =
    ⊎_elim
    (λ l. inl (eqb-true s 0 l.0, sym l.1))
    (λ r. inr (eqb-false s 0 r.0, sym r.1))
    (if-cases (eqb s 0) (S - 1) (s - 1) refl)

pub previous-lt : (S s : ℕ) → s < S → previous S s < S
previous-lt S s here = ⊎_elim (λ a. omega arith) (λ a. omega arith) (previous-cases S s)

-- it undoes the successor
pub previous-next : (S s : ℕ) → s < S → previous S (next S s) ≡ s
previous-next S s here =
    ⊎_elim
    (λ a. ⊎_elim (λ b. omega arith) (λ b. omega arith) (previous-cases S (next S s)))
    (λ a. ⊎_elim (λ b. omega arith) (λ b. omega arith) (previous-cases S (next S s)))
    (next-cases S s)

-- and the successor undoes it
pub next-previous : (S s : ℕ) → s < S → next S (previous S s) ≡ s
next-previous S s here =
    ⊎_elim
    (λ a. ⊎_elim (λ b. omega arith) (λ b. omega arith) (next-cases S (previous S s)))
    (λ a. ⊎_elim (λ b. omega arith) (λ b. omega arith) (next-cases S (previous S s)))
    (previous-cases S s)

module _ (S u : ℕ) (spare : u < S) where
  pub ring-lt : (k : ℕ) → k < S → ring_sector S u k < S
  ring-lt k h = ⊎_elim (λ a. omega arith) (λ a. omega arith) (ring-cases S u k)

  -- one place up is the next sector, and one place down the one before
  pub ring-up : (k : ℕ) → suc k < S → next S (ring_sector S u k) ≡ ring_sector S u (suc k)
  ring-up k h =
      ⊎_elim
      (λ a. ⊎_elim (λ b. omega (arith, ring-high S u (suc k) (omega arith))) (λ b. omega (arith, ring-low S u (suc k) (omega arith))) (next-cases S (ring_sector S u k)))
      (λ a. ⊎_elim (λ b. omega arith) (λ b. omega (arith, ring-high S u (suc k) (omega arith))) (next-cases S (ring_sector S u k)))
      (ring-cases S u k)

  pub ring-down : (k : ℕ) → suc k < S → ring_sector S u k ≡ previous S (ring_sector S u (suc k))
  ring-down k h = sym (previous-next S (ring_sector S u k) (ring-lt k (omega arith))) ∙ ap (previous S) (ring-up k h)

  -- u itself has none of the places that count
  pub ring-other : (k : ℕ) → suc k < S → ring_sector S u k ≡ u → ⊥
  ring-other k h same = ⊎_elim (λ a. omega arith) (λ a. omega arith) (ring-cases S u k)

  -- no sector has two places
  pub ring-apart : (j k : ℕ) → j < k → k < S → ring_sector S u k ≡ ring_sector S u j → ⊥
  ring-apart j k below h same =
      ⊎_elim
      (λ a. ⊎_elim (λ b. omega arith) (λ b. omega arith) (ring-cases S u k))
      (λ a. ⊎_elim (λ b. omega arith) (λ b. omega arith) (ring-cases S u k))
      (ring-cases S u j)

-- the first place is that of the successor
pub ring-first : (S u : ℕ) → u < S → ring_sector S u 0 ≡ next S u
ring-first S u here =
    ⊎_elim
    (λ a. ⊎_elim (λ b. omega arith) (λ b. omega arith) (next-cases S u))
    (λ a. ⊎_elim (λ b. omega arith) (λ b. omega arith) (next-cases S u))
    (ring-cases S u 0)

-- the last place is that of the working sector, its successor being the spare
pub ring-working : (S w : ℕ) → w < S → 2 ≤ S → ring_sector S (next S w) (S - 2) ≡ w
ring-working S w here two =
    ⊎_elim
    (λ a. ⊎_elim (λ b. omega arith) (λ b. omega arith) (next-cases S w))
    (λ a. ⊎_elim (λ b. omega arith) (λ b. omega arith) (next-cases S w))
    (ring-cases S (next S w) (S - 2))

-- The place of a sector: the sectors at the places after it are the newer ones.
pub record RingPlace (u s : ℕ) (views : List View) : Type 0 where
  pub place : ℕ
  pub low : place < length views - 1
  pub at : ring_sector (length views) u place ≡ s
  pub newer : drop (suc place) (all_but u views) ≡ newer_than u s views

module _ (u : ℕ) (views : List View) (here : u < length views) where
  -- every sector but the spare has one
  pub ring-place : (s : ℕ) → s < length views → (s ≡ u → ⊥) → RingPlace u s views
  ring-place s h other =
      let S : ℕ = length views in
      by_cases (dec_lt u s)
      (λ behind.
      record {
        place = s - suc u;
        low = omega arith;
        at = ring-low S u (s - suc u) (omega arith) ∙ omega arith;
        newer = newer-behind u views here (s - suc u) s (omega arith) h;
      })
      (λ before.
      record {
        place = S - suc u + s;
        low = omega arith;
        at = ring-high S u (S - suc u + s) (omega arith) ∙ omega arith;
        newer = newer-before u views here (S - suc u + s) s refl (omega arith);
      })

  -- which view stands at place k
  pub ring-view : (k : ℕ) → k < length views - 1 → get_or (all_but u views) k no_view ≡ view_at views (ring_sector (length views) u k)
  unfolding view_at
  ring-view k h =
      ⊎_elim
      (λ a. view-behind u views here k (ring_sector (length views) u k) (omega arith) (omega arith))
      (λ a. view-before u views here k (ring_sector (length views) u k) (omega arith) (omega arith))
      (ring-cases (length views) u k)

  -- and its live values
  pub ring-live : (k : ℕ) → k < length views - 1 → get_or (live_each (all_but u views)) k [] ≡ live_in u (ring_sector (length views) u k) views
  ring-live k h =
      ⊎_elim
      (λ a. live-behind u views here k (ring_sector (length views) u k) (omega arith) (omega arith))
      (λ a. live-before u views here k (ring_sector (length views) u k) (omega arith) (omega arith))
      (ring-cases (length views) u k)

  -- the entries up to place k are the older ones and those of that sector
  pub ring-entries : (k : ℕ) → k < length views - 1
      → entries_in (take (suc k) (all_but u views)) ≡ entries_in (take k (all_but u views)) ++ (view_at views (ring_sector (length views) u k)).entries
  ring-entries k h =
      ap entries_in (take-suc (all_but u views) k no_view (omega (arith, length-all_but u views here)))
      ∙ entries_in-last (take k (all_but u views)) (get_or (all_but u views) k no_view)
      ∙ ap (λ (v : View). entries_in (take k (all_but u views)) ++ v.entries) (ring-view k h)

  -- and at the last place they are all
  pub ring-all : entries_in (take (length views - 1) (all_but u views)) ≡ entries_in (all_but u views)
  ring-all = ap entries_in (take_all (length views - 1) (all_but u views) (omega (arith, length-all_but u views here)))
