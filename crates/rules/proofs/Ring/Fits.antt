-- Laws of the least number of turns: there is none exactly where nothing fits, else it is the least that fits.
use mathlib.Core.Path.{◌≡◌, refl, sym, ap, ◌∙◌}
use mathlib.Core.List.{List, [], ◌∷◌, map}
use mathlib.Core.Option.{Option, none, some, some-injective, none-ne-some}
use Prim.Native.Nat.{ℕ, zero, suc, ◌+◌, ◌-◌, ◌<◌, ◌≤◌}
use native.Mathlib.Nat.{sub-zero}
use native.Mathlib.Omega.{arith}
use lib.Dec.{leb}
use lib.ListN.{length, length-map, get_or, get_or-map}
use borrow.Author.Tests.{leb-true, leb-false, le-leb, lt-leb}
use Rattle.rules.specs.Notation.{Each, empty, each}
use Rattle.rules.specs.Reading.{Entry, View}
use Rattle.rules.specs.Meaning.{at_rest, view_at, next, ring_sector, counting, live_each, live_in, needs_of}
use Rattle.rules.specs.Stores.{first_fit, least_turns}
use Rattle.rules.proofs.Basics.Notation.{by-test}
use Rattle.rules.proofs.Ring.Order.{next-lt, length-all_but}
use Rattle.rules.proofs.Ring.LiveBySector.{length-live_each}
use Rattle.rules.proofs.Ring.Newest.{ring-live}

-- k is the least place, counted from t, whose needs leave room.
pub record IsFirstFit (need limit t : ℕ) (ns : List ℕ) (k : ℕ) : Type 0 where
  pub from : t ≤ k
  pub within : k < t + length ns
  pub fits : get_or ns (k - t) 0 + need ≤ limit
  pub least : (i : ℕ) → i < k - t → limit < get_or ns i 0 + need

module _ (need limit : ℕ) where
  -- the first of the needs leaves room, or not
  module _ (t n : ℕ) (ns : List ℕ) where
    pub fit-here : n + need ≤ limit → first_fit need limit t (n ∷ ns) ≡ some t
    unfolding first_fit
    fit-here h = simp (le-leb (n + need) limit h)

    pub fit-later : limit < n + need → first_fit need limit t (n ∷ ns) ≡ first_fit need limit (suc t) ns
    unfolding first_fit
    fit-later h = simp (lt-leb (n + need) limit h)

    fit-cases {ℓ} : {A : Type ℓ} → (n + need ≤ limit → A) → (limit < n + need → A) → A
    fit-cases here later = by-test (leb (n + need) limit) (λ h. here (leb-true _ _ h)) (λ h. later (leb-false _ _ h))

    first-here : {k : ℕ} → n + need ≤ limit → t ≡ k → IsFirstFit need limit t (n ∷ ns) k
    first-here {k} h same =
        let gap : k - t ≡ 0 = omega arith in
        record { from = omega arith; within = omega arith; fits = rw gap h; least = λ i b. absurd (omega arith) }

    first-later : {k : ℕ} → limit < n + need → IsFirstFit need limit (suc t) ns k → IsFirstFit need limit t (n ∷ ns) k
    first-later {k} above rest =
        let after : suc t ≤ k = rest.from in
        let end : k < suc t + length ns = rest.within in
        let gap : k - t ≡ suc (k - suc t) = omega arith in
        record { from = omega arith; within = omega arith; fits = rw gap rest.fits; least = λ i b. earlier i (rw gap at b) }
      where
        earlier : (i : ℕ) → i < suc (k - suc t) → limit < get_or (n ∷ ns) i 0 + need
        earlier zero b = above
        earlier (suc i) b = rest.least i (omega arith)

  -- None, exactly where none of them leaves room.
  pub none-fits : (t : ℕ) (ns : List ℕ) → first_fit need limit t ns ≡ none → Each (λ (n : ℕ). limit < n + need) ns
  none-fits t [] e = empty
  none-fits t (n ∷ ns) e =
      fit-cases t n ns
      (λ h. absurd (none-ne-some t (sym e ∙ fit-here t n ns h)))
      (λ above. each above (none-fits (suc t) ns (sym (fit-later t n ns above) ∙ e)))

  pub fits-none : (t : ℕ) (ns : List ℕ) → Each (λ (n : ℕ). limit < n + need) ns → first_fit need limit t ns ≡ none
  unfolding first_fit
  fits-none t [] empty = refl
  fits-none t (n ∷ ns) (each above rest) = fit-later t n ns above ∙ fits-none (suc t) ns rest

  -- Else the least place,
  pub some_fits : (t : ℕ) (ns : List ℕ) {k : ℕ} → first_fit need limit t ns ≡ some k → IsFirstFit need limit t ns k
  unfolding first_fit
  some_fits t [] {k} e = absurd (none-ne-some k e)
  some_fits t (n ∷ ns) {k} e =
      fit-cases t n ns
      (λ h. first-here t n ns h (some-injective t k (sym (fit-here t n ns h) ∙ e)))
      (λ above. first-later t n ns above (some_fits (suc t) ns (sym (fit-later t n ns above) ∙ e)))

  -- which is at most any place that leaves room,
  pub index-fits : (t : ℕ) (ns : List ℕ) (i : ℕ) → i < length ns → get_or ns i 0 + need ≤ limit → (k : ℕ) × (first_fit need limit t ns ≡ some k) × (k ≤ t + i)
  index-fits t [] i b h = absurd (omega arith)
  index-fits t (n ∷ ns) zero b h = (t, fit-here t n ns h, omega arith)
  index-fits t (n ∷ ns) (suc i) b h =
      fit-cases t n ns
      (λ here. (t, fit-here t n ns here, omega arith))
      (λ above. let (k, is, few) = index-fits (suc t) ns i (omega arith) h in (k, fit-later t n ns above ∙ is, omega arith))

  -- and no other.
  pub first_fits : (t : ℕ) (ns : List ℕ) (k : ℕ) → IsFirstFit need limit t ns k → first_fit need limit t ns ≡ some k
  first_fits t ns k f =
      let (j, is, few) = index-fits t ns (k - t) (omega arith) f.fits in
      let s : IsFirstFit need limit t ns j = some_fits t ns is in
      let never : j < k → ⊥ = λ h. omega (arith, f.least (j - t) (omega arith), s.fits) in
      let same : j ≡ k = omega arith in
      is ∙ ap (λ (i : ℕ). some i) same

module _ {ℓ κ ι} {A : Type ℓ} {B : Type κ} (P : B → Type ι) (f : A → B) where
  pub each_map : (xs : List A) → Each P (map f xs) → Each (λ (x : A). P (f x)) xs
  each_map [] empty = empty
  each_map (x ∷ xs) (each p ps) = each p (each_map xs ps)

  pub map_each : (xs : List A) → Each (λ (x : A). P (f x)) xs → Each P (map f xs)
  map_each [] empty = empty
  map_each (x ∷ xs) (each p ps) = each p (map_each xs ps)

-- In the terms of the turns: the needs of the open sector after no turn, after one, and so on.
abbrev pub open_needs : (w : ℕ) → List View → List ℕ
open_needs w views = needs_of (view_at views w).entries ∷ map needs_of (live_each (counting (at_rest w) views))

-- There is one for each number of turns from 0 to S-1: after t turns the live needs of the sector at place t-1 behind the spare.
module _ (w : ℕ) (views : List View) (here : w < length views) where
  pub length-counting : length (counting (at_rest w) views) ≡ length views - 1
  unfolding counting
  length-counting = length-all_but (next (length views) w) views (next-lt (length views) w here)

  pub needs-after : (k : ℕ) → k < length views - 1
      → get_or (open_needs w views) (suc k) 0 ≡ needs_of (live_in (next (length views) w) (ring_sector (length views) (next (length views) w) k) views)
  unfolding counting needs_of
  needs-after k h =
      get_or-map needs_of (live_each (counting (at_rest w) views)) k []
      ∙ ap needs_of (ring-live (next (length views) w) views (next-lt (length views) w here) k h)

-- "no t from 0 to S-1 fits"
pub record IsNoRoom (need limit w : ℕ) (views : List View) : Type 0 where
  pub working : limit < needs_of (view_at views w).entries + need
  pub others : Each (λ (live : List Entry). limit < needs_of live + need) (live_each (counting (at_rest w) views))

-- "the least number of turns after which it fits"
pub record IsLeast (need limit w : ℕ) (views : List View) (turns : ℕ) : Type 0 where
  pub within : turns ≤ length (counting (at_rest w) views)
  pub fits : get_or (open_needs w views) turns 0 + need ≤ limit
  pub least : (t : ℕ) → t < turns → limit < get_or (open_needs w views) t 0 + need

module _ (need limit w : ℕ) (views : List View) where
  counted : length (open_needs w views) ≡ suc (length (counting (at_rest w) views))
  counted = ap suc (length-map (live_each (counting (at_rest w) views)) needs_of ∙ length-live_each (counting (at_rest w) views))

  pub none-room : least_turns need limit w views ≡ none → IsNoRoom need limit w views
  unfolding least_turns
  none-room e = go (none-fits need limit 0 (open_needs w views) e)
    where
      go : Each (λ (n : ℕ). limit < n + need) (open_needs w views) → IsNoRoom need limit w views
      go (each above rest) = record { working = above; others = each_map (λ (n : ℕ). limit < n + need) needs_of _ rest }

  pub room-none : IsNoRoom need limit w views → least_turns need limit w views ≡ none
  unfolding least_turns
  room-none full =
      fits-none need limit 0 (open_needs w views) (each full.working (map_each (λ (n : ℕ). limit < n + need) needs_of _ full.others))

  pub turns-least : {k : ℕ} → least_turns need limit w views ≡ some k → IsLeast need limit w views k
  unfolding least_turns
  turns-least {k} e =
      let f : IsFirstFit need limit 0 (open_needs w views) k = some_fits need limit 0 (open_needs w views) e in
      record { within = omega (arith, counted, f.within); fits = rw sub-zero at f.fits; least = λ t b. f.least t (omega arith) }

  pub least-turns : (k : ℕ) → IsLeast need limit w views k → least_turns need limit w views ≡ some k
  unfolding least_turns
  least-turns k l =
      first_fits need limit 0 (open_needs w views) k
      (record { from = omega arith; within = omega (arith, counted, l.within); fits = rw sub-zero l.fits; least = λ t b. l.least t (omega arith) })

  -- there is none where no number of turns fits; else
  pub no-turns : ((t : ℕ) → t ≤ length (counting (at_rest w) views) → limit < get_or (open_needs w views) t 0 + need) → least_turns need limit w views ≡ none
  no-turns above = go (least_turns need limit w views) refl
    where
      go : (o : Option ℕ) → least_turns need limit w views ≡ o → least_turns need limit w views ≡ none
      go none e = e
      go (some k) e = let l : IsLeast need limit w views k = turns-least e in absurd (omega (arith, above k l.within, l.fits))

  -- it is at most any number of turns that fits,
  pub some-turns : (t : ℕ) → t ≤ length (counting (at_rest w) views) → get_or (open_needs w views) t 0 + need ≤ limit
      → (k : ℕ) × (least_turns need limit w views ≡ some k) × (k ≤ t)
  unfolding least_turns
  some-turns t b h =
      let (k, is, few) = index-fits need limit 0 (open_needs w views) t (omega (arith, counted)) h in
      (k, is, omega arith)

  -- so at most one where the first of the live needs leaves room.
  pub one-turn : 1 ≤ length (counting (at_rest w) views) → get_or (map needs_of (live_each (counting (at_rest w) views))) 0 0 + need ≤ limit
      → (k : ℕ) × (least_turns need limit w views ≡ some k) × (k ≤ 1)
  one-turn b h = some-turns 1 b h
