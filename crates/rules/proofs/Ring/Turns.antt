-- A turn on the history: what is told stays told, what is live stays live, and the live needs go round.
use mathlib.Core.Path.{◌≡◌, refl, sym, ap, ap₂, ◌∙◌}
use mathlib.Core.Bool.{Bool, true, false, not, ◌&&◌, ◌||◌, or-false}
use mathlib.Core.List.{List, [], ◌∷◌, ◌++◌, map, map-append, append-nil, append_assoc}
use mathlib.Core.Option.{none}
use Prim.Native.Nat.{ℕ, ◌+◌}
use native.Mathlib.Omega.{arith}
use lib.ListN.{get_or, drop}
use borrow.Author.Tests.{eq-eqb}
use Rattle.rules.specs.Notation.{any}
use Rattle.rules.specs.Look.{Head, done, deletion, value, need_of}
use Rattle.rules.specs.Reading.{Entry, View}
use Rattle.rules.specs.Meaning.{is_named, is_value, changes_of, newest_value, lookup, is_renewed, live_among, live_each, entries_in, needs_of}
use Rattle.rules.specs.Stores.{done_entry}
use Rattle.rules.proofs.Basics.Notation.{when_true, when_false, by-test}
use Rattle.rules.proofs.Ring.Changes.{are_named, named-right, unnamed-done, changes-append, changes-silent, unnamed-changes, changes-unnamed, lookup-renewed}
use Rattle.rules.proofs.Ring.Live.{is_live, live-kept, live-dropped, live-cases, live-empty, live-append, listed, live-renewed, live-changes, live-again}
use Rattle.rules.proofs.Ring.History.{entries_in-append}
use Rattle.rules.proofs.Basics.Places.{any_append}

-- what a turn writes: the live values of the oldest sector, `rest` being the entries of the others, and done
abbrev pub copied : (oldest rest : List Entry) → List Entry
copied oldest rest = live_among oldest rest ++ (done_entry ∷ [])

-- what tells, put in front, tells the same
listed-matches : (xs ys : List Entry) → (newest_value xs ≡ none → newest_value ys ≡ none) → newest_value (listed (newest_value xs) ++ ys) ≡ newest_value xs
unfolding listed newest_value
listed-matches [] ys n = n refl
listed-matches (x ∷ xs) ys n =
    by-test (is_value x.head) (λ v. simp (v, when_true)) (λ v. simp (v, when_false) (n (simp (v, when_false))))

-- it is the front of what it was found in, or nothing
listed-front : (xs : List Entry) → (rest : List Entry) × (xs ≡ listed (newest_value xs) ++ rest)
unfolding listed newest_value
listed-front [] = ([], refl)
listed-front (x ∷ xs) = by-test (is_value x.head) (λ v. (xs, simp (v, when_true))) (λ v. (x ∷ xs, simp (v, when_false)))

module _ (id : ℕ) (o r : List Entry) where
  copied-renewed : are_named id r ≡ true → changes_of id (copied o r) ≡ []
  copied-renewed n = changes-silent id (live_among o r) (done_entry ∷ []) (unnamed-done id) ∙ live-renewed id o r n

  copied-matches : are_named id r ≡ false → changes_of id (copied o r) ≡ listed (lookup id o)
  copied-matches u = changes-silent id (live_among o r) (done_entry ∷ []) (unnamed-done id) ∙ live-changes id o r u

  -- Done, not reopened: the copies repeat what is told.
  pub lookup-copied : lookup id ((o ++ r) ++ copied o r) ≡ lookup id (o ++ r)
  unfolding lookup
  lookup-copied =
      by-test (are_named id r)
      (λ n. simp (changes-append id (o ++ r) (copied o r), copied-renewed n))
      (λ u.
      simp (changes-append id (o ++ r) (copied o r), changes-append id o r, copied-matches u, unnamed-changes id r u)
      (listed-matches (changes_of id o) (changes_of id o) (λ e. e)))

  -- After the turn: the rest and the copies tell it,
  pub lookup-turned : lookup id (r ++ copied o r) ≡ lookup id (o ++ r)
  unfolding lookup newest_value
  lookup-turned =
      by-test (are_named id r)
      (λ n. simp (changes-append id r (copied o r), copied-renewed n, lookup-renewed))
      (λ u.
      simp (changes-append id r (copied o r), changes-append id o r, copied-matches u, unnamed-changes id r u)
      (listed-matches (changes_of id o) [] (λ e. refl)))

  -- and of an ID's entries the newest stay, in their order.
  pub changes-turned : (rest : List Entry) × (changes_of id (o ++ r) ≡ changes_of id (r ++ copied o r) ++ rest)
  unfolding lookup
  changes-turned =
      by-test (are_named id r)
      (λ n. (changes_of id o, simp (changes-append id r (copied o r), changes-append id o r, copied-renewed n)))
      (λ u.
      let (rest, is) = listed-front (changes_of id o) in
      (rest, simp (changes-append id r (copied o r), changes-append id o r, copied-matches u, unnamed-changes id r u, append-nil) is))

module _ (o r : List Entry) where
  -- The test on an entry of the rest is the same with the copies behind it, which have none of its ID.
  test-stays : (before after : List Entry) (e : Entry) → r ≡ before ++ (e ∷ after) → (later : List Entry) → is_live e (later ++ copied o r) ≡ is_live e later
  unfolding any is_named is_value is_renewed
  test-stays before after e placed later = go e.head refl
    where
      go : (h : Head) → e.head ≡ h → (is_value h && not (is_renewed h (later ++ copied o r))) ≡ (is_value h && not (is_renewed h later))
      go done same = refl
      go (deletion i) same = refl
      go (value i len) same =
          let named : are_named i r ≡ true = ap (are_named i) placed ∙ named-right i before (e ∷ after) (simp (same, eq-eqb i i refl)) in
          let silent : are_named i (copied o r) ≡ false = changes-unnamed i (copied o r) (copied-renewed i o r named) in
          ap not (any_append _ later (copied o r) ∙ ap (λ (b : Bool). are_named i later || b) silent ∙ or-false (are_named i later))

  -- Live stays live: of a part x of the rest, n being what is newer, the live values are the same after the turn;
  pub live-stays : (before x n : List Entry) → r ≡ before ++ (x ++ n) → live_among x (n ++ copied o r) ≡ live_among x n
  live-stays before [] n placed = simp live-empty
  live-stays before (e ∷ es) n placed =
      let below : live_among es (n ++ copied o r) ≡ live_among es n = live-stays (before ++ (e ∷ [])) es n (placed ∙ sym (append_assoc before (e ∷ []) (es ++ n))) in
      let same : is_live e (es ++ (n ++ copied o r)) ≡ is_live e (es ++ n) = ap (is_live e) (sym (append_assoc es n (copied o r))) ∙ test-stays before (es ++ n) e placed (es ++ n) in
      live-cases e es n (λ l. live_among (e ∷ es) (n ++ copied o r) ≡ l)
      (λ t. simp (live-kept e es (n ++ copied o r) (same ∙ t), below))
      (λ f. simp (live-dropped e es (n ++ copied o r) (same ∙ f), below))

  -- and all copies are live.
  pub live-copied : live_among (copied o r) [] ≡ live_among o r
  unfolding is_value done_entry
  live-copied =
      live-append (live_among o r) (done_entry ∷ []) []
      ∙ simp (live-again o r (done_entry ∷ []) unnamed-done, live-dropped done_entry [] [] refl, live-empty, append-nil)

-- The same on rings, oldest sector first.
pub needs-append : (xs ys : List Entry) → needs_of (xs ++ ys) ≡ needs_of xs + needs_of ys
unfolding needs_of
needs-append [] ys = omega arith
needs-append (x ∷ xs) ys = let rest : needs_of (xs ++ ys) ≡ needs_of xs + needs_of ys = needs-append xs ys in omega arith

pub live-oldest : (o : View) (vs : List View) → get_or (live_each (o ∷ vs)) 0 [] ≡ live_among o.entries (entries_in vs)
unfolding live_each
live-oldest o vs = refl

-- `o` is collected, and `v` shows what the turn wrote.
module _ (o : View) (vs : List View) (v : View) (is : v.entries ≡ copied o.entries (entries_in vs)) where
  with-copies : (xs : List View) → entries_in (xs ++ (v ∷ [])) ≡ entries_in xs ++ copied o.entries (entries_in vs)
  unfolding entries_in
  with-copies xs = simp (entries_in-append xs (v ∷ []), is, append-nil)

  pub ring-copied : (id : ℕ) → lookup id (entries_in (o ∷ (vs ++ (v ∷ [])))) ≡ lookup id (entries_in (o ∷ vs))
  unfolding entries_in
  ring-copied id = ap (lookup id) (with-copies (o ∷ vs)) ∙ lookup-copied id o.entries (entries_in vs)

  pub ring-turned : (id : ℕ) → lookup id (entries_in (vs ++ (v ∷ []))) ≡ lookup id (entries_in (o ∷ vs))
  unfolding entries_in
  ring-turned id = ap (lookup id) (with-copies vs) ∙ lookup-turned id o.entries (entries_in vs)

  rest_live : (before xs : List View) → vs ≡ before ++ xs → live_each (xs ++ (v ∷ [])) ≡ live_each xs ++ (live_among o.entries (entries_in vs) ∷ [])
  unfolding live_each entries_in
  rest_live before [] placed = ap (λ (l : List Entry). live_among l [] ∷ []) is ∙ ap (λ (l : List Entry). l ∷ []) (live-copied o.entries (entries_in vs))
  rest_live before (x ∷ xs) placed =
      let older : entries_in vs ≡ entries_in before ++ (x.entries ++ entries_in xs) = ap entries_in placed ∙ entries_in-append before (x ∷ xs) in
      let here : live_among x.entries (entries_in (xs ++ (v ∷ []))) ≡ live_among x.entries (entries_in xs) =
      ap (live_among x.entries) (with-copies xs) ∙ live-stays o.entries (entries_in vs) (entries_in before) x.entries (entries_in xs) older in
      ap₂ (λ (l : List Entry) (ls : List (List Entry)). l ∷ ls) here (rest_live (before ++ (x ∷ [])) xs (placed ∙ sym (append_assoc before (x ∷ []) xs)))

  -- The live values of the sectors go round by one, and so do their needs;
  pub live-rotated : live_each (vs ++ (v ∷ [])) ≡ drop 1 (live_each (o ∷ vs)) ++ (live_among o.entries (entries_in vs) ∷ [])
  unfolding live_each
  live-rotated = rest_live [] vs refl

  pub needs-rotated : map needs_of (live_each (vs ++ (v ∷ []))) ≡ drop 1 (map needs_of (live_each (o ∷ vs))) ++ (needs_of (live_among o.entries (entries_in vs)) ∷ [])
  unfolding live_each
  needs-rotated = ap (map needs_of) live-rotated ∙ map-append needs_of (live_each vs) (live_among o.entries (entries_in vs) ∷ [])

  -- the needs of what the turn wrote are the first of them: done costs nothing;
  pub needs-copied : needs_of v.entries ≡ get_or (map needs_of (live_each (o ∷ vs))) 0 0
  unfolding live_each needs_of need_of done_entry
  needs-copied = ap needs_of is ∙ needs-append (live_among o.entries (entries_in vs)) (done_entry ∷ []) ∙ omega arith

  -- so the needs that the open sector has after 0, 1, 2 .. turns move up by one.
  pub open-rotated : needs_of v.entries ∷ map needs_of (live_each (vs ++ (v ∷ []))) ≡ map needs_of (live_each (o ∷ vs)) ++ (needs_of (live_among o.entries (entries_in vs)) ∷ [])
  unfolding live_each
  open-rotated = ap₂ (λ (n : ℕ) (ns : List ℕ). n ∷ ns) needs-copied needs-rotated
