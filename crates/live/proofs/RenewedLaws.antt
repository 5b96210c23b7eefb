-- The flags of the entries that have a later one of their ID: how they change with one entry more, and what they tell.
-- Assumes nothing.
use mathlib.Core.Path.{◌≡◌, refl, sym, ap, ap₂, ◌∙◌}
use mathlib.Core.Bool.{Bool, true, false, not, ◌&&◌, ◌||◌, or-true, or-false}
use mathlib.Core.List.{List, [], ◌∷◌, ◌++◌, append_assoc}
use Rattle.std.specs.Prelude.{Option, Some, None}
use Prim.Native.Nat.{ℕ, zero, suc, ◌<◌}
use native.Mathlib.Nat.{le_of_suc-le-suc}
use native.Mathlib.Omega.{arith}
use lib.Dec.{eqb}
use lib.ListN.{length, get_or, take, set}
use lib.Seq.{take-suc, length-take-le}
use borrow.Author.Tests.{eqb-true, eq-eqb, ne_eqb}
use Rattle.rules.specs.Notation.{any}
use Rattle.rules.specs.Look.{Head, done, deletion, value}
use Rattle.rules.specs.Reading.{Entry, View}
use Rattle.rules.specs.Meaning.{view_at, entries_in, is_named, is_value, is_renewed, newer_than}
use Rattle.rules.proofs.Basics.Notation.{by-test}
use Rattle.rules.proofs.Basics.Places.{any_append}
use Rattle.rules.proofs.Ring.Changes.{are_named, named-left}
use Rattle.image.specs.Answer.{no_entry}
use Rattle.search.specs.Search.{last_named_below, last_named}
use Rattle.search.proofs.LastNamed.{behind, last-behind, is_found, found, last-first}
use Rattle.live.specs.Live.{live_flags, live_flags_in, renewed_flags, renewed_flags_in, renewed_by}

pub length-renewed : (es later : List Entry) → length (renewed_flags es later) ≡ length es
unfolding renewed_flags
length-renewed [] later = refl
length-renewed (e ∷ es) later = ap suc (length-renewed es later)

-- ---- a live value is one that is not renewed

live-not-renewed : (es later : List Entry) (n : ℕ) → n < length es
    → get_or (live_flags es later) n false ≡ (is_value (get_or es n no_entry).head && not (get_or (renewed_flags es later) n false))
unfolding live_flags renewed_flags
live-not-renewed [] later n h = absurd (omega arith)
live-not-renewed (e ∷ es) later zero h = refl
live-not-renewed (e ∷ es) later (suc n) h = live-not-renewed es later n (le_of_suc-le-suc h)

-- by sector number
pub live-by-renewed : (u s : ℕ) (views : List View) (n : ℕ) → n < length (view_at views s).entries
    → get_or (live_flags_in u s views) n false ≡ (is_value (get_or (view_at views s).entries n no_entry).head && not (get_or (renewed_flags_in u s views) n false))
unfolding live_flags_in renewed_flags_in
live-by-renewed u s views = live-not-renewed (view_at views s).entries (entries_in (newer_than u s views))

-- ---- one later entry more

-- the flags with one of them set, if there is one to set
unfoldable pub with_mark : Option ℕ → List Bool → List Bool
with_mark None flags = flags
with_mark (Some m) flags = set flags m true

-- an entry in front: its own flag is set where it is the last one of the ID
mark-behind : (first : Bool) (o : Option ℕ) (f : Bool) (flags : List Bool)
    → (f || (first && not (is_found o))) ∷ with_mark o flags ≡ with_mark (behind first o) (f ∷ flags)
unfolding with_mark behind is_found
mark-behind true None f flags = rw or-true
mark-behind false None f flags = rw or-false
mark-behind true (Some m) f flags = rw or-false
mark-behind false (Some m) f flags = rw or-false

-- an entry is renewed by one of its own ID, wherever it stands
renewed-append : (h : Head) (xs ys : List Entry) → is_renewed h (xs ++ ys) ≡ (is_renewed h xs || is_renewed h ys)
unfolding is_renewed
renewed-append done xs ys = refl
renewed-append (deletion i) xs ys = any_append (λ (e : Entry). is_named i e.head) xs ys
renewed-append (value i len) xs ys = any_append (λ (e : Entry). is_named i e.head) xs ys

named-renewed : (id : ℕ) (h : Head) (xs : List Entry) → is_named id h ≡ true → is_renewed h xs ≡ are_named id xs
unfolding is_named is_renewed
named-renewed id done xs named = let z : ◌≡◌ {A = ℕ} 0 1 = cc in absurd (omega arith)
named-renewed id (deletion i) xs named = ap (λ (j : ℕ). are_named j xs) (eqb-true i id named)
named-renewed id (value i len) xs named = ap (λ (j : ℕ). are_named j xs) (eqb-true i id named)

-- and not by one that does not name it
unshared : (h : Head) (e : Entry) → ((i : ℕ) → is_named i h ≡ true → is_named i e.head ≡ false) → is_renewed h (e ∷ []) ≡ false
unfolding is_named is_renewed any
unshared done e apart = refl
unshared (deletion i) e apart = rw (apart i (eq-eqb i i refl))
unshared (value i len) e apart = rw (apart i (eq-eqb i i refl))

-- The entry names this ID, and no other.
abbrev Names : Entry → ℕ → Type 0
Names e id = (j : ℕ) → is_named j e.head ≡ eqb id j

module _ (e : Entry) (id : ℕ) (names : Names e id) where
  -- the flag of an entry that others stand behind
  flag-more : (x : Entry) (es later : List Entry)
      → is_renewed x.head (es ++ (later ++ (e ∷ []))) ≡ (is_renewed x.head (es ++ later) || (is_named id x.head && not (are_named id es)))
  unfolding any
  flag-more x es later =
      ap (is_renewed x.head) (sym (append_assoc es later (e ∷ [])))
      ∙ renewed-append x.head (es ++ later) (e ∷ [])
      ∙ by-test (is_named id x.head)
      (λ named.
      by-test (are_named id es)
      (λ again. rw (named, again, named-renewed id x.head (es ++ later) named, named-left id es later again))
      (λ last. rw (named, last, named-renewed id x.head (e ∷ []) named, names id, eq-eqb id id refl)))
      (λ other. rw (other, unshared x.head e (λ i named. names i ∙ ne_eqb id i (λ same. apart other named same)), or-false))
    where
      apart : {i : ℕ} → is_named id x.head ≡ false → is_named i x.head ≡ true → id ≡ i → ⊥
      apart other named same = let z : ◌≡◌ {A = ℕ} 0 1 = cc in omega arith

  mark-last : (es later : List Entry) → renewed_flags es (later ++ (e ∷ [])) ≡ with_mark (last_named id es) (renewed_flags es later)
  unfolding renewed_flags last_named last_named_below with_mark
  mark-last [] later = refl
  mark-last (x ∷ es) later =
      let old : Bool = is_renewed x.head (es ++ later) in
      let first : Bool = is_named id x.head in
      ap₂ (λ (f : Bool) (fs : List Bool). f ∷ fs)
      (flag-more x es later ∙ ap (λ (b : Bool). old || (first && not b)) (sym (found id es)))
      (mark-last es later)
      ∙ mark-behind first (last_named id es) old (renewed_flags es later)
      ∙ ap (λ (o : Option ℕ). with_mark o (renewed_flags (x ∷ es) later)) (sym (last-behind id (length es) x es))

-- a done marks none
mark-none : (e : Entry) → e.head ≡ done → (es later : List Entry) → renewed_flags es (later ++ (e ∷ [])) ≡ renewed_flags es later
unfolding renewed_flags is_named
mark-none e is [] later = refl
mark-none e is (x ∷ es) later =
    let kept : is_renewed x.head (es ++ later ++ (e ∷ [])) ≡ is_renewed x.head (es ++ later) =
    renewed-append x.head (es ++ later) (e ∷ []) ∙ rw (unshared x.head e (λ i named. ap (is_named i) is), or-false) in
    ap₂ (λ (f : Bool) (fs : List Bool). f ∷ fs) (ap (is_renewed x.head) (sym (append_assoc es later (e ∷ []))) ∙ kept) (mark-none e is es later)

-- Each later entry marks the one that it renews.
pub one_later : (e : Entry) (es later : List Entry) → renewed_flags es (later ++ (e ∷ [])) ≡ with_mark (renewed_by e.head (length es) es) (renewed_flags es later)
unfolding renewed_by with_mark is_named last_named
one_later e es later = go e.head refl
  where
    go : (h : Head) → e.head ≡ h → renewed_flags es (later ++ (e ∷ [])) ≡ with_mark (renewed_by h (length es) es) (renewed_flags es later)
    go done is = mark-none e is es later
    go (deletion i) is = mark-last e i (λ j. ap (is_named j) is) es later
    go (value i len) is = mark-last e i (λ j. ap (is_named j) is) es later

-- ---- one entry more of the sector itself

renewed-parts : (xs ys later : List Entry) → renewed_flags (xs ++ ys) later ≡ renewed_flags xs (ys ++ later) ++ renewed_flags ys later
unfolding renewed_flags
renewed-parts [] ys later = refl
renewed-parts (x ∷ xs) ys later =
    ap₂ (λ (f : Bool) (fs : List Bool). f ∷ fs) (ap (is_renewed x.head) (append_assoc xs ys later)) (renewed-parts xs ys later)

-- what has no later entry is not renewed
newest-kept : (h : Head) → is_renewed h [] ≡ false
unfolding is_renewed any
newest-kept done = refl
newest-kept (deletion i) = refl
newest-kept (value i len) = refl

-- only the first entries count
renewed-first : (h : Head) (n : ℕ) (es : List Entry) → renewed_by h n (take n es) ≡ renewed_by h n es
unfolding renewed_by
renewed-first done n es = refl
renewed-first (deletion i) n es = last-first i n n es (omega arith)
renewed-first (value i len) n es = last-first i n n es (omega arith)

-- Entry n marks the one before it that it renews, and is not renewed itself as yet.
pub one_more : (es : List Entry) (n : ℕ) → n < length es
    → renewed_flags (take (suc n) es) [] ≡ with_mark (renewed_by (get_or es n no_entry).head n es) (renewed_flags (take n es) []) ++ (false ∷ [])
unfolding renewed_flags
one_more es n here =
    let e : Entry = get_or es n no_entry in
    let count : length (take n es) ≡ n = length-take-le n es (omega arith) in
    let within : renewed_flags (take n es) (e ∷ []) ≡ with_mark (renewed_by e.head n es) (renewed_flags (take n es) []) =
    one_later e (take n es) []
    ∙ ap (λ (k : ℕ). with_mark (renewed_by e.head k (take n es)) (renewed_flags (take n es) [])) count
    ∙ ap (λ (o : Option ℕ). with_mark o (renewed_flags (take n es) [])) (renewed-first e.head n es) in
    ap (λ (l : List Entry). renewed_flags l []) (take-suc es n no_entry here)
    ∙ renewed-parts (take n es) (e ∷ []) []
    ∙ ap₂ (λ (fs gs : List Bool). fs ++ gs) within (ap (λ (f : Bool). f ∷ []) (newest-kept e.head))
