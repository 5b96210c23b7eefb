-- A write or a delete, cut anywhere and whole: at every cut the old values are told, whole the new one.
use Rattle.std.specs.Prelude.{if◌then◌else◌}
use mathlib.Core.Path.{◌≡◌, refl, sym, ap, subst, ◌∙◌}
use mathlib.Core.Bool.{Bool, true}
use mathlib.Core.List.{List, [], ◌∷◌, ◌++◌, map, map-append, tail, append_assoc}
use mathlib.Core.Option.{Option, some}
use Prim.Native.Nat.{ℕ, zero, suc, ◌+◌, ◌<◌, ◌≤◌}
use native.Mathlib.Nat.{not-suc-le-zero}
use native.Mathlib.Omega.{arith}
use lib.ListN.{length, get_or, length-append, length-map, get_or-append}
use Rattle.rules.specs.Notation.{when, concat, times}
use Rattle.rules.specs.Ground.{Image}
use Rattle.rules.specs.Look.{Scan, start, need_of, is_within}
use Rattle.rules.specs.Reading.{Entry, View, after_all}
use Rattle.rules.specs.Meaning.{at_rest, views_of, view_at, next, all_but, counting, entries_in, is_named, is_value, live_among, live_each, needs_of, lookup}
use Rattle.rules.specs.Stores.{apply, ◌and_then◌, append, done_entry, turn, turns, moved, least_turns, change}
use Rattle.rules.proofs.Terms.{IsImage, IsProper, changed, added_view}
use Rattle.rules.proofs.Crash.Cuts.{Goes, goes-nothing, goes-atomic, goes_then}
use Rattle.rules.proofs.Ring.Order.{ring, all_but_two, next-lt}
use Rattle.rules.proofs.Ring.History.{entries_each, entries_in-each, changed-here, changed-all_but}
use Rattle.rules.proofs.Ring.Events.{after-add}
use Rattle.rules.proofs.Blocks.Counting.{needs-all}
use Rattle.rules.proofs.Blocks.Append.{append-atomic}
use Rattle.rules.proofs.Ring.Changes.{lookup-other, lookup-named}
use Rattle.rules.proofs.Ring.Turns.{live-rotated}
use Rattle.rules.proofs.Ring.Fits.{IsLeast, open_needs, turns-least}
use Rattle.rules.proofs.Basics.Notation.{by-test}
use Rattle.rules.proofs.Crash.Standing.{turned, turned-matches, concat-snoc, Stands, Rests, rests-stand, entries_each-append}
use Rattle.rules.proofs.Crash.Shifts.{at_size, two-of, sized-changed}
use Rattle.rules.proofs.Crash.Turning.{image-after, turn-goes}
use Rattle.rules.proofs.Crash.Mounting.{SettledAt}

-- what is told once an entry is the newest
abbrev pub updated : Entry → (ℕ → Option Entry) → ℕ → Option Entry
updated e T id = if is_named id e.head then when (is_value e.head) e else T id

-- the live needs of each sector, by the entries alone
live_needs : List (List Entry) → List ℕ
live_needs [] = []
live_needs (es ∷ rest) = needs_of (live_among es (concat rest)) ∷ live_needs rest

live-needs-views : (vs : List View) → map needs_of (live_each vs) ≡ live_needs (entries_each vs)
unfolding live_each live_needs
live-needs-views [] = refl
live-needs-views (v ∷ vs) = simp (entries_in-each vs, live-needs-views vs)

length-live_needs : (ring : List (List Entry)) → length (live_needs ring) ≡ length ring
unfolding live_needs
length-live_needs [] = refl
length-live_needs (es ∷ rest) = ap suc (length-live_needs rest)

-- views that show these entries
showing : List Entry → View
showing es = record { led = true; cycle = 0; closed = true; entries = es }

shown : (ring : List (List Entry)) → entries_each (map showing ring) ≡ ring
unfolding showing
shown [] = refl
shown (es ∷ rest) = ap (λ (l : List (List Entry)). es ∷ l) (shown rest)

-- A turn moves the first of the live needs to the end.
needs-rotate : (o : List Entry) (others : List (List Entry)) → live_needs (turned (o ∷ others)) ≡ live_needs others ++ (needs_of (live_among o (concat others)) ∷ [])
unfolding showing live_each
needs-rotate o others =
    let vs : List View = map showing others in
    let rest : entries_in vs ≡ concat others = entries_in-each vs ∙ ap concat (shown others) in
    let c : List Entry = live_among o (concat others) in
    let x : View = showing (c ++ (done_entry ∷ [])) in
    let rotated : live_each (vs ++ (x ∷ [])) ≡ live_each vs ++ (c ∷ []) =
    live-rotated (showing o) vs x (ap (λ (es : List Entry). live_among o es ++ (done_entry ∷ [])) (sym rest)) ∙ ap (λ (es : List Entry). live_each vs ++ (live_among o es ∷ [])) rest in
    ap live_needs (sym (entries_each-append vs (x ∷ []) ∙ ap (λ (l : List (List Entry)). l ++ ((c ++ (done_entry ∷ [])) ∷ [])) (shown others)))
    ∙ sym (live-needs-views (vs ++ (x ∷ [])))
    ∙ ap (map needs_of) rotated
    ∙ map-append needs_of (live_each vs) (c ∷ [])
    ∙ ap (λ (ns : List ℕ). ns ++ (needs_of c ∷ [])) (live-needs-views vs ∙ ap live_needs (shown others))

-- the last list
last_of : List Entry → List (List Entry) → List Entry
last_of d [] = d
last_of d (x ∷ xs) = last_of x xs

last_snoc : (d : List Entry) (xs : List (List Entry)) (x : List Entry) → last_of d (xs ++ (x ∷ [])) ≡ x
unfolding last_of
last_snoc d [] x = refl
last_snoc d (y ∷ ys) x = last_snoc y ys x

needs-done : (es : List Entry) → needs_of (es ++ (done_entry ∷ [])) ≡ needs_of es
unfolding needs_of done_entry need_of
needs-done [] = refl
needs-done (e ∷ es) = ap (λ (n : ℕ). need_of e.head + n) (needs-done es)

length-turned : (ring : List (List Entry)) → length (turned ring) ≡ length ring
length-turned [] = refl
length-turned (o ∷ others) = length-append others _ ∙ omega arith

-- After t turns the working sector's needs are the live needs, at the start, of the t-th sector behind the spare.
needs-turned : (t : ℕ) (ring : List (List Entry)) → suc t ≤ length ring → needs_of (last_of [] (times (suc t) turned ring)) ≡ get_or (live_needs ring) t 0
unfolding times live_needs
needs-turned zero ring h = first ring h
  where
    first : (ring : List (List Entry)) → 1 ≤ length ring → needs_of (last_of [] (turned ring)) ≡ get_or (live_needs ring) 0 0
    first [] h = absurd (not-suc-le-zero h)
    first (o ∷ others) h =
        ap needs_of (last_snoc [] others (live_among o (concat others) ++ (done_entry ∷ []))) ∙ needs-done (live_among o (concat others))
needs-turned (suc t) ring h = needs-turned t (turned ring) (omega (arith, length-turned ring)) ∙ rotated ring h
  where
    rotated : (ring : List (List Entry)) → suc (suc t) ≤ length ring → get_or (live_needs (turned ring)) t 0 ≡ get_or (live_needs ring) (suc t) 0
    rotated [] h = absurd (not-suc-le-zero h)
    rotated (o ∷ others) h =
        let inside : t < length (live_needs others) = omega (arith, length-live_needs others) in
        ap (λ (ns : List ℕ). get_or ns t 0) (needs-rotate o others)
        ∙ get_or-append (live_needs others) (needs_of (live_among o (concat others)) ∷ []) 0 t inside

lookup-added : (id : ℕ) (xs : List Entry) (e : Entry) → lookup id (xs ++ (e ∷ [])) ≡ (if is_named id e.head then when (is_value e.head) e else lookup id xs)
lookup-added id xs e =
    by-test (is_named id e.head)
    (λ named. lookup-named id xs e named ∙ sym (ap (λ (b : Bool). if b then when (is_value e.head) e else lookup id xs) named))
    (λ other. lookup-other id xs e other ∙ sym (ap (λ (b : Bool). if b then when (is_value e.head) e else lookup id xs) other))

module _ (S : ℕ) (two : 2 ≤ S) where
  -- a ring has an oldest sector, and ends in the working one
  rests-oldest : {w : ℕ} {sectors : List (List Entry)} {views : List View} → w < S → Rests S w sectors views
      → (o : List Entry) × (others : List (List Entry)) × (sectors ≡ o ∷ others)
  rests-oldest {w} {sectors} {views} here r =
      let u : ℕ = next S w in
      let inside : u < length views = subst (λ (n : ℕ). u < n) (sym r.sized) (next-lt S w here) in
      ((view_at views (next (length views) u)).entries, entries_each (all_but_two u views), sym r.held ∙ ap entries_each (ring u views inside (two-of S two r.sized)).oldest)

  rests-newest : {w : ℕ} {sectors : List (List Entry)} {views : List View} → Rests S w sectors views → sectors ≡ entries_each (all_but_two w views) ++ ((view_at views w).entries ∷ [])
  rests-newest {w} {sectors} {views} r =
      sym r.held
      ∙ at_size S two (λ (n : ℕ). entries_each (all_but (next n w) views) ≡ entries_each (all_but_two w views ++ (view_at views w ∷ []))) r.sized (ap entries_each (ring w views r.is.here (two-of S two r.sized)).newest)
      ∙ entries_each-append (all_but_two w views) (view_at views w ∷ [])

  -- one more entry in the working sector
  add-shift : {w : ℕ} {sectors : List (List Entry)} {views : List View} (e : Entry) → Rests S w sectors views
      → Rests S w (entries_each (all_but_two w views) ++ (((view_at views w).entries ++ (e ∷ [])) ∷ [])) (changed (added_view e) w views)
  unfolding all_but_two
  add-shift {w} {sectors} {views} e r =
      let after : List View = changed (added_view e) w views in
      let sized : length after ≡ S = sized-changed S two views (added_view e) w r.sized in
      let is = after-add views w e r.is in
      record {
        sized = sized;
        is = is;
        held =
            at_size S two (λ (n : ℕ). entries_each (all_but (next n w) after) ≡ entries_each (all_but_two w after ++ (view_at after w ∷ []))) sized (ap entries_each (ring w after is.here (two-of S two sized)).newest)
            ∙ entries_each-append (all_but_two w after) (view_at after w ∷ [])
            ∙ ap (λ (vs : List View). entries_each (tail vs) ++ ((view_at after w).entries ∷ [])) (changed-all_but (added_view e) w views)
            ∙ ap (λ (v : View). entries_each (all_but_two w views) ++ (v.entries ∷ [])) (changed-here (added_view e) w views r.is.here);
      }

  -- the sectors that count, as the least turns look at them
  pub counted : {w : ℕ} {sectors : List (List Entry)} {views : List View} → Rests S w sectors views → entries_each (counting (at_rest w) views) ≡ sectors
  unfolding counting
  counted {w} {sectors} {views} r = ap (λ (n : ℕ). entries_each (all_but (next n w) views)) r.sized ∙ r.held

  -- the needs of the working sector after t turns are those that the least turns looked at
  open-needs : (t : ℕ) {w w' : ℕ} {sectors : List (List Entry)} {views views' : List View} → w < S → Rests S w sectors views → Rests S w' (times t turned sectors) views'
      → t ≤ length (counting (at_rest w) views) → needs_of (view_at views' w').entries ≡ get_or (open_needs w views) t 0
  unfolding times
  open-needs t {w} {w'} {sectors} {views} {views'} here r r' few = ap needs_of (sym (working r')) ∙ by-turns t few
    where
      working : {v : ℕ} {ring : List (List Entry)} {vs : List View} → Rests S v ring vs → last_of [] ring ≡ (view_at vs v).entries
      working {v} {ring} {vs} q = ap (last_of []) (rests-newest q) ∙ last_snoc [] (entries_each (all_but_two v vs)) (view_at vs v).entries

      by-turns : (n : ℕ) → n ≤ length (counting (at_rest w) views) → needs_of (last_of [] (times n turned sectors)) ≡ get_or (open_needs w views) n 0
      by-turns zero few = ap needs_of (working r)
      by-turns (suc n) few =
          let number : length sectors ≡ length (counting (at_rest w) views) = ap length (sym (counted r)) ∙ length-map (counting (at_rest w) views) (λ (v : View). v.entries) in
          needs-turned n sectors (omega arith)
          ∙ ap (λ (ns : List ℕ). get_or ns n 0) (ap live_needs (sym (counted r)) ∙ sym (live-needs-views (counting (at_rest w) views)))

module _ (B S : ℕ) (big : 8 ≤ B) (most : B ≤ 4096) (two : 2 ≤ S) (T : ℕ → Option Entry) where
  -- so many turns from rest
  pub turns_go : (t : ℕ) (im : Image) {w : ℕ} {sectors : List (List Entry)}
      → ((id : ℕ) → lookup id (concat sectors) ≡ T id) → IsImage B S im → w < S → Rests S w sectors (views_of B im)
      → Goes B S (turns B S t w) im (Stands S T) (Rests S (moved S t w) (times t turned sectors))
  unfolding turns moved times
  turns_go zero im matches ok here r = goes-nothing B S im r
  turns_go (suc t) im {w} {sectors} matches ok here r =
      let (o, others, e) = rests-oldest S two here r in
      let tells' : (id : ℕ) → lookup id (concat (o ∷ others)) ≡ T id = subst (λ (l : List (List Entry)). (id : ℕ) → lookup id (concat l) ≡ T id) e matches in
      let first : Goes B S (turn B S w) im (Stands S T) (Rests S (next S w) (turned (o ∷ others))) =
      turn-goes B S big most two T im tells' ok here (subst (λ (l : List (List Entry)). Rests S w l (views_of B im)) e r) in
      subst (λ (l : List (List Entry)). Goes B S (turn B S w and_then turns B S t (next S w)) im (Stands S T) (Rests S (moved S t (next S w)) (times t turned (turned l)))) (sym e)
      (goes_then B S im (turn B S w) (turns B S t (next S w)) first
      (turns_go t (apply (turn B S w im) im) (turned-matches S T (o ∷ others) tells') (image-after B S big most two T im ok first) (next-lt S w here) first.whole))

  times-matches : (t : ℕ) (sectors : List (List Entry)) → ((id : ℕ) → lookup id (concat sectors) ≡ T id) → (id : ℕ) → lookup id (concat (times t turned sectors)) ≡ T id
  unfolding times
  times-matches zero sectors matches = matches
  times-matches (suc t) sectors matches = times-matches t (turned sectors) (turned-matches S T sectors matches)

  moved-below : (t w : ℕ) → w < S → moved S t w < S
  unfolding moved
  moved-below zero w here = here
  moved-below (suc t) w here = moved-below t (next S w) (next-lt S w here)

  -- one more entry at rest, where it fits
  add_goes : (e : Entry) (im : Image) {w : ℕ} {sectors : List (List Entry)}
      → ((id : ℕ) → lookup id (concat sectors) ≡ T id) → IsImage B S im → w < S → Rests S w sectors (views_of B im) → IsProper e
      → is_within B (after_all start (view_at (views_of B im) w).entries) e.head ≡ true
      → Goes B S (append B w e) im (Stands S T) (SettledAt S (updated e T) w)
  add_goes e im {w} {sectors} matches ok here r proper within =
      goes-atomic B S im (append-atomic big most ok here proper within) (rests-stand S T matches r)
      (record {
        settled = record {
          working = w;
          ring = xs ++ ((x ++ (e ∷ [])) ∷ []);
          rests = add-shift S two e r;
          matches = λ id. ap (lookup id) longer ∙ lookup-added id (concat sectors) e ∙ ap (λ (t : Option Entry). if is_named id e.head then when (is_value e.head) e else t) (matches id);
        };
        here = refl;
      })
    where
      views : List View
      views = views_of B im

      xs : List (List Entry)
      xs = entries_each (all_but_two w views)

      x : List Entry
      x = (view_at views w).entries

      longer : concat (xs ++ ((x ++ (e ∷ [])) ∷ [])) ≡ concat sectors ++ (e ∷ [])
      longer =
          concat-snoc xs (x ++ (e ∷ [])) ∙ sym (append_assoc (concat xs) x (e ∷ []))
          ∙ ap (λ (es : List Entry). es ++ (e ∷ [])) (sym (concat-snoc xs x) ∙ ap concat (sym (rests-newest S two r)))

  -- The least turns leave room in the sector that is the working one after them.
  pub turns-room : (need limit t : ℕ) (im : Image) {w : ℕ} {sectors : List (List Entry)}
      → ((id : ℕ) → lookup id (concat sectors) ≡ T id) → IsImage B S im → w < S → Rests S w sectors (views_of B im)
      → least_turns need limit w (views_of B im) ≡ some t
      → (after_all start (view_at (views_of B (apply (turns B S t w im) im)) (moved S t w)).entries).needs + need ≤ limit
  turns-room need limit t im {w} matches ok here r least =
      let after : List View = views_of B (apply (turns B S t w im) im) in
      let found : IsLeast need limit w (views_of B im) t = turns-least need limit w (views_of B im) least in
      omega (arith, found.fits, needs-all (view_at after (moved S t w)).entries, open-needs S two t here r (turns_go t im matches ok here r).whole found.within)

  -- The least turns, then the append.
  pub change-goes : (e : Entry) (limit t : ℕ) (im : Image) {w : ℕ} {sectors : List (List Entry)}
      → ((scan : Scan) → scan.needs + need_of e.head ≤ limit → is_within B scan e.head ≡ true)
      → ((id : ℕ) → lookup id (concat sectors) ≡ T id) → IsImage B S im → w < S → Rests S w sectors (views_of B im) → IsProper e
      → least_turns (need_of e.head) limit w (views_of B im) ≡ some t
      → Goes B S (change B S t w e) im (Stands S T) (SettledAt S (updated e T) (moved S t w))
  unfolding change
  change-goes e limit t im {w} {sectors} admits matches ok here r proper least =
      goes_then B S im (turns B S t w) (append B (moved S t w) e) turning
      (add_goes e im₁ (times-matches t sectors matches) (image-after B S big most two T im ok turning) (moved-below t w here) turning.whole proper
      (admits (after_all start (view_at (views_of B im₁) (moved S t w)).entries) (turns-room (need_of e.head) limit t im matches ok here r least)))
    where
      turning : Goes B S (turns B S t w) im (Stands S T) (Rests S (moved S t w) (times t turned sectors))
      turning = turns_go t im matches ok here r

      im₁ : Image
      im₁ = apply (turns B S t w im) im
