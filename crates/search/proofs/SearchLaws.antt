-- What a caller learns of the newest entry that is sought: what it tells is what the image tells of the ID, and where it stands.
-- Assumes nothing.
use mathlib.Core.Path.{◌≡◌, refl, sym, ap, ap₂, subst, ◌∙◌}
use mathlib.Core.Bool.{true}
use mathlib.Core.List.{List, ◌++◌, append-nil}
use mathlib.Core.Logic.{⊎_elim}
use mathlib.Core.Option as rule
use Rattle.std.specs.Prelude.{Option, Some, None}
use Rattle.std.proofs.lemmas.Option.{same_Some, none-some, some_pair_parts}
use Prim.Native.Nat.{ℕ, zero, suc, ◌-◌, ◌<◌, ◌≤◌}
use native.Mathlib.Omega.{arith}
use lib.ListN.{length, get_or, take}
use lib.Seq.{take_all}
use Rattle.rules.specs.Notation.{when, select}
use Rattle.rules.specs.Reading.{Entry, View}
use Rattle.rules.specs.Meaning.{view_at, next, ring_sector, all_but, counting, entries_in, history, at_rest, is_named, is_value, lookup, changes_of, newest_value}
use Rattle.rules.proofs.Basics.Notation.{by-test, if-cases}
use Rattle.rules.proofs.Ring.Order.{next-lt}
use Rattle.rules.proofs.Ring.Newest.{down-named, down-other, ring-lt, ring-entries, ring-all}
use Rattle.layout.specs.declared.Geometry.{Geometry}
use Rattle.layout.specs.declared.Sector.{Sector}
use Rattle.layout.specs.Geometry.{sectors_of}
use Rattle.layout.specs.Numbers.{sector_no, sector_at}
use Rattle.image.specs.Answer.{no_entry}
use Rattle.search.specs.Search.{last_named_below, last_named, in_sector, seek, newest_as, told_at}
use Rattle.image.specs.Answer.{views_in}
use Rattle.image.proofs.Sectors.{views-count}
use Rattle.search.proofs.Seeking.{last-here, last-below}

-- ---- what it tells

-- what a sector's entries tell where the older ones tell this
tells : List Entry → Option ℕ → rule.Option Entry → rule.Option Entry
tells es None older = older
tells es (Some n) older = when (is_value (get_or es n no_entry).head) (get_or es n no_entry)

tells-below : (id : ℕ) (older es : List Entry) (n : ℕ) → n ≤ length es
    → lookup id (older ++ take n es) ≡ tells es (last_named_below id n es) (lookup id older)
unfolding tells last_named_below
tells-below id older es zero h = ap (lookup id) (append-nil older)
tells-below id older es (suc n) h =
    by-test (is_named id (get_or es n no_entry).head)
    (λ named. down-named id older es n no_entry h named ∙ sym (ap (λ (o : Option ℕ). tells es o (lookup id older)) (last-here id es n refl named)))
    (λ other.
    down-other id older es n no_entry h other ∙ tells-below id older es n (omega arith)
    ∙ sym (ap (λ (o : Option ℕ). tells es o (lookup id older)) (last-below id es n refl other)))

tells_all : (id : ℕ) (older es : List Entry) → lookup id (older ++ es) ≡ tells es (last_named id es) (lookup id older)
unfolding last_named
tells_all id older es =
    ap (λ (l : List Entry). lookup id (older ++ l)) (sym (take_all (length es) es (omega arith))) ∙ tells-below id older es (length es) (omega arith)

tells-in : (views : List View) (s : ℕ) (o : Option ℕ) (older : Option (ℕ × ℕ))
    → tells (view_at views s).entries o (told_at views older) ≡ told_at views (in_sector s o older)
unfolding tells told_at in_sector
tells-in views s None older = refl
tells-in views s (Some n) older = refl

module _ (id u : ℕ) (views : List View) (here : u < length views) where
  ring-tells : (k : ℕ) → k ≤ length views - 1
      → lookup id (entries_in (take k (all_but u views))) ≡ told_at views (seek id (length views) u k views)
  unfolding seek told_at entries_in lookup changes_of newest_value select
  ring-tells zero h = refl
  ring-tells (suc k) h =
      let S : ℕ = length views in
      let s : ℕ = ring_sector S u k in
      let es : List Entry = (view_at views s).entries in
      ap (lookup id) (ring-entries u views here k h)
      ∙ tells_all id (entries_in (take k (all_but u views))) es
      ∙ ap (tells es (last_named id es)) (ring-tells k (omega arith))
      ∙ tells-in views s (last_named id es) (seek id S u k views)

-- At rest the entry that is found tells what the image tells of the ID; and where none is found, nothing is told.
pub seek-lookup : (id w : ℕ) (views : List View) → w < length views
    → lookup id (history (at_rest w) views) ≡ told_at views (seek id (length views) (next (length views) w) (length views - 1) views)
unfolding history counting
seek-lookup id w views inside =
    let u : ℕ = next (length views) w in
    let here : u < length views = next-lt (length views) w inside in
    ap (lookup id) (sym (ring-all u views here)) ∙ ring-tells id u views here (length views - 1) (omega arith)

-- ---- where it stands

-- The entry at a place is one of the sector's entries, and names the ID.
pub record StandsAt (id : ℕ) (views : List View) (s n : ℕ) : Type 0 where
  pub sector : s < length views
  pub entry : n < length (view_at views s).entries
  pub named : is_named id (get_or (view_at views s).entries n no_entry).head ≡ true

-- the entry with the last number names the ID, and there is one of that number
pub last-stands : (id : ℕ) (es : List Entry) (m n : ℕ) → last_named_below id m es ≡ Some n → (n < m) × (is_named id (get_or es n no_entry).head ≡ true)
unfolding last_named_below
last-stands id es zero n e = absurd (none-some n e)
last-stands id es (suc m) n e =
    ⊎_elim
    (λ t.
    let same : m ≡ n = same_Some m n t.1 in
    (omega arith, subst (λ (i : ℕ). is_named id (get_or es i no_entry).head ≡ true) same t.0))
    (λ f. let below = last-stands id es m n f.1 in (omega (arith, below.0), below.1))
    (if-cases (is_named id (get_or es m no_entry).head) (Some m) (last_named_below id m es) e)

module _ (id u : ℕ) (views : List View) (here : u < length views) where
  -- so it is with the entry of a sector, or of an older one
  in-stands : (s : ℕ) → s < length views → (o : Option ℕ) (older : Option (ℕ × ℕ)) → last_named id (view_at views s).entries ≡ o
      → ((place : ℕ × ℕ) → older ≡ Some place → StandsAt id views place.0 place.1)
      → (place : ℕ × ℕ) → in_sector s o older ≡ Some place → StandsAt id views place.0 place.1
  unfolding in_sector last_named
  in-stands s inside None older last before place e = before place e
  in-stands s inside (Some n) older last before place e =
      let stands = last-stands id (view_at views s).entries (length (view_at views s).entries) n last in
      subst (λ (p : ℕ × ℕ). StandsAt id views p.0 p.1) (same_Some (s, n) place e)
      (record { sector = inside; entry = stands.0; named = stands.1 })

  pub seek-stands : (k : ℕ) → k ≤ length views → (place : ℕ × ℕ) → seek id (length views) u k views ≡ Some place
      → StandsAt id views place.0 place.1
  unfolding seek
  seek-stands zero h place e = absurd (none-some place e)
  seek-stands (suc k) h place e =
      let s : ℕ = ring_sector (length views) u k in
      in-stands s (ring-lt (length views) u here k h) (last_named id (view_at views s).entries) (seek id (length views) u k views) refl
      (seek-stands k (omega arith)) place e

-- so it is with the entry that is sought in an image
module _ (g : Geometry) (bytes : List ℕ) (id w : ℕ) (inside : w < sectors_of g) where
  pub sought-stands : (place : ℕ × ℕ) → seek id (sectors_of g) (next (sectors_of g) w) (sectors_of g - 1) (views_in g bytes) ≡ Some place
      → StandsAt id (views_in g bytes) place.0 place.1
  sought-stands place =
      let views : List View = views_in g bytes in
      subst (λ (S : ℕ). w < S → seek id S (next S w) (S - 1) views ≡ Some place → StandsAt id views place.0 place.1) (views-count g bytes)
      (λ here e. seek-stands id (next (length views) w) views (next-lt (length views) w here) (length views - 1) (omega arith) place e)
      inside

  pub sought-tells : lookup id (history (at_rest w) (views_in g bytes))
      ≡ told_at (views_in g bytes) (seek id (sectors_of g) (next (sectors_of g) w) (sectors_of g - 1) (views_in g bytes))
  sought-tells =
      let views : List View = views_in g bytes in
      subst (λ (S : ℕ). w < S → lookup id (history (at_rest w) views) ≡ told_at views (seek id S (next S w) (S - 1) views)) (views-count g bytes)
      (λ here. seek-lookup id w views here)
      inside

-- ---- the answer, read back

pub newest-at : (o : Option (ℕ × ℕ)) {s : Sector} {n : ℕ} → newest_as o ≡ Some (s, n) → o ≡ Some (sector_no s, n)
newest-at None {s} {n} e = absurd (none-some _ e)
newest-at (Some place) {s} {n} e =
    let t = some_pair_parts (sector_at place.0) s place.1 n e in
    ap₂ (λ (t m : ℕ). Some (t, m)) (ap sector_no t.0) t.1

pub newest-none : (o : Option (ℕ × ℕ)) → newest_as o ≡ None → o ≡ None
newest-none None e = refl
newest-none (Some place) e = absurd (none-some _ (sym e))
