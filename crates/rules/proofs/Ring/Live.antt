-- Laws of the live values: what each of them is, and that they tell of an ID what their entries tell.
use Rattle.std.specs.Prelude.{if◌then◌else◌}
use mathlib.Core.Path.{◌≡◌, refl, sym, ap, ◌∙◌}
use mathlib.Core.Bool.{Bool, true, false, not, ◌&&◌, false≢true, true≢false}
use mathlib.Core.List.Memᴰ
use mathlib.Core.List.{List, [], ◌∷◌, ◌++◌, append-nil, append_assoc, Memᴰ}
use mathlib.Core.Logic.{◌⊎◌, inl, inr, ⊎_elim}
use mathlib.Core.Option.{Option, none, some}
use Prim.Native.Nat.{ℕ, ◌≤◌}
use native.Mathlib.Omega.{arith}
use borrow.Author.Tests.{eqb-true, not-true}
use Rattle.rules.specs.Notation.{when, select, Each, empty, each}
use Rattle.rules.specs.Look.{Head, done, deletion, value}
use Rattle.rules.specs.Reading.{Entry}
use Rattle.rules.specs.Meaning.{is_named, is_value, changes_of, lookup, is_renewed, live_among, needs_of}
use Rattle.rules.proofs.Basics.Notation.{when_true, when_false, both_true, refuted, by-test}
use Rattle.rules.proofs.Ring.Changes.{are_named, named-left, named-right, unnamed-both, unnamed-parts, changes-empty, changes-named, changes-other, changes-cons, changes-unnamed, lookup-silent, lookup-renewed, lookup-empty, lookup-unnamed, lookup-other, lookup-named, IsValueOf, named_value, IsTold, lookup-here, lookup-further, place-lookup}

-- "A value is live if it is its ID's newest entry": the test that picks it, and what the test finds.
abbrev pub is_live : Entry → (later : List Entry) → Bool
is_live e later = is_value e.head && not (is_renewed e.head later)

pub record IsLive (e : Entry) (later : List Entry) : Type 0 where
  pub id : ℕ
  pub valued : IsValueOf id e
  pub newest : are_named id later ≡ false

pub live-is : (e : Entry) (later : List Entry) → is_live e later ≡ true → IsLive e later
unfolding is_value is_renewed
live-is e later t = go e.head refl (both_true (is_value e.head) (not (is_renewed e.head later)) t)
  where
    go : (h : Head) → e.head ≡ h → (is_value h ≡ true) × (not (is_renewed h later) ≡ true) → IsLive e later
    go done same t = absurd (false≢true t.0)
    go (deletion i) same t = absurd (false≢true t.0)
    go (value i len) same t = record { id = i; valued = record { length = len; is = same }; newest = not-true (are_named i later) t.1 }

pub is_live_lem : (e : Entry) (later : List Entry) → IsLive e later → is_live e later ≡ true
unfolding is_value is_renewed
is_live_lem e later l = simp (l.valued.is, l.newest)

pub live-empty : (later : List Entry) → live_among [] later ≡ []
unfolding live_among
live-empty later = refl

-- one entry more in front: it is kept or left out
module _ (e : Entry) (es later : List Entry) where
  pub live-kept : is_live e (es ++ later) ≡ true → live_among (e ∷ es) later ≡ e ∷ live_among es later
  unfolding live_among
  live-kept t = simp t

  pub live-dropped : is_live e (es ++ later) ≡ false → live_among (e ∷ es) later ≡ live_among es later
  unfolding live_among
  live-dropped f = simp f

  pub live-cases : (P : List Entry → Type 0) → (is_live e (es ++ later) ≡ true → P (e ∷ live_among es later)) → (is_live e (es ++ later) ≡ false → P (live_among es later))
      → P (live_among (e ∷ es) later)
  live-cases P model_after dropped = by-test (is_live e (es ++ later)) (λ t. rw (live-kept t) (model_after t)) (λ f. rw (live-dropped f) (dropped f))

pub live-append : (xs ys later : List Entry) → live_among (xs ++ ys) later ≡ live_among xs (ys ++ later) ++ live_among ys later
live-append [] ys later = simp live-empty
live-append (x ∷ xs) ys later =
    let same : is_live x ((xs ++ ys) ++ later) ≡ is_live x (xs ++ (ys ++ later)) = ap (is_live x) (append_assoc xs ys later) in
    live-cases x (xs ++ ys) later (λ l. l ≡ live_among (x ∷ xs) (ys ++ later) ++ live_among ys later)
    (λ t. simp (live-kept x xs (ys ++ later) (sym same ∙ t), live-append xs ys later))
    (λ f. simp (live-dropped x xs (ys ++ later) (sym same ∙ f), live-append xs ys later))

-- what all entries are, the live ones are
pub live-each : (P : Entry → Type 0) (es later : List Entry) → Each P es → Each P (live_among es later)
live-each P [] later empty = rw live-empty empty
live-each P (e ∷ es) later (each p ps) =
    let rest : Each P (live_among es later) = live-each P es later ps in
    live-cases e es later (Each P) (λ t. each p rest) (λ f. rest)

-- and they need no more than all values
pub live-needs : (es later : List Entry) → needs_of (live_among es later) ≤ needs_of (select (λ (e : Entry). is_value e.head) es)
unfolding live_among select needs_of
live-needs [] later = omega arith
live-needs (e ∷ es) later = go (is_value e.head) (is_renewed e.head (es ++ later)) (live_among es later) (select (λ (x : Entry). is_value x.head) es) (live-needs es later)
  where
    go : (v r : Bool) (Some-of all_of : List Entry) → needs_of Some-of ≤ needs_of all_of
        → needs_of (if v && not r then e ∷ Some-of else Some-of) ≤ needs_of (if v then e ∷ all_of else all_of)
    go true true Some-of all_of few = omega arith
    go true false Some-of all_of few = omega arith
    go false r Some-of all_of few = few

-- An entry whose ID is named again later is not live.
pub named-dead : (id : ℕ) (e : Entry) (later : List Entry) → is_named id e.head ≡ true → are_named id later ≡ true → is_live e later ≡ false
unfolding is_named
named-dead id e later n again =
    refuted (is_live e later)
    (λ t.
    let l : IsLive e later = live-is e later t in
    let same : l.id ≡ id = eqb-true l.id id (sym (ap (is_named id) l.valued.is) ∙ n) in
    true≢false (sym again ∙ ap (λ (i : ℕ). are_named i later) (sym same) ∙ l.newest))

-- the entry that tells, if there is one
unfoldable pub listed : Option Entry → List Entry
listed none = []
listed (some e) = e ∷ []

module _ (id : ℕ) where
  -- an entry of another ID, or one that is named again, adds nothing of this ID
  other-adds : (e : Entry) (es later : List Entry) → is_named id e.head ≡ false → changes_of id (live_among (e ∷ es) later) ≡ changes_of id (live_among es later)
  other-adds e es later n =
      live-cases e es later (λ l. changes_of id l ≡ changes_of id (live_among es later))
      (λ t. simp (changes-cons id e (live_among es later), changes-other id e n, append-nil))
      (λ f. refl)

  dead-adds : (e : Entry) (es later : List Entry) → are_named id (es ++ later) ≡ true → changes_of id (live_among (e ∷ es) later) ≡ changes_of id (live_among es later)
  dead-adds e es later again =
      by-test (is_named id e.head)
      (λ n. ap (changes_of id) (live-dropped e es later (named-dead id e (es ++ later) n again)))
      (λ other. other-adds e es later other)

  -- the last entry of the ID: it is live if it is a value
  last-adds : (e : Entry) (es later : List Entry) → is_named id e.head ≡ true → are_named id (es ++ later) ≡ false → changes_of id (live_among es later) ≡ []
      → changes_of id (live_among (e ∷ es) later) ≡ listed (when (is_value e.head) e)
  unfolding listed
  last-adds e es later n u nothing =
      by-test (is_value e.head)
      (λ v.
      let model_after : is_live e (es ++ later) ≡ true = is_live_lem e (es ++ later) (record { id = id; valued = named_value id e n v; newest = u }) in
      simp (live-kept e es later model_after, changes-cons id e (live_among es later), nothing, changes-named id e n, v, when_true))
      (λ v.
      let dropped : is_live e (es ++ later) ≡ false = simp v in
      simp (live-dropped e es later dropped, nothing, v, when_false))

  -- Where the ID is named later, none of its entries is live;
  pub live-renewed : (es later : List Entry) → are_named id later ≡ true → changes_of id (live_among es later) ≡ []
  live-renewed [] later n = simp (live-empty, changes-empty)
  live-renewed (e ∷ es) later n = dead-adds e es later (named-right id es later n) ∙ live-renewed es later n

  -- else the one that tells is, and it alone.
  pub live-changes : (es later : List Entry) → are_named id later ≡ false → changes_of id (live_among es later) ≡ listed (lookup id es)
  unfolding listed
  live-changes [] later u = simp (live-empty, changes-empty, lookup-empty)
  live-changes (e ∷ es) later u =
      by-test (are_named id es)
      (λ n. dead-adds e es later (named-left id es later n) ∙ live-changes es later u ∙ ap listed (sym (lookup-renewed id (e ∷ []) es n)))
      (λ f.
      let nothing : changes_of id (live_among es later) ≡ [] = live-changes es later u ∙ ap listed (lookup-unnamed id es f) in
      let alone : lookup id (e ∷ es) ≡ lookup id (e ∷ []) = lookup-silent id (e ∷ []) es f in
      by-test (is_named id e.head)
      (λ n. last-adds e es later n (unnamed-both id es later f u) nothing ∙ ap listed (sym (alone ∙ lookup-named id [] e n)))
      (λ other. other-adds e es later other ∙ nothing ∙ ap listed (sym (alone ∙ lookup-other id [] e other ∙ lookup-empty id))))

  -- So of each ID at most one entry is live,
  pub live-once : (es later : List Entry) → (changes_of id (live_among es later) ≡ []) ⊎ ((e : Entry) × (changes_of id (live_among es later) ≡ e ∷ []))
  unfolding listed
  live-once es later = by-test (are_named id later) (λ n. inl (live-renewed es later n)) (λ u. go (lookup id es) (live-changes es later u))
    where
      go : (o : Option Entry) → changes_of id (live_among es later) ≡ listed o
          → (changes_of id (live_among es later) ≡ []) ⊎ ((e : Entry) × (changes_of id (live_among es later) ≡ e ∷ []))
      go none is = inl is
      go (some e) is = inr (e, is)

  -- and none of an ID that is not named at all.
  pub live-unnamed : (es later : List Entry) → are_named id es ≡ false → are_named id (live_among es later) ≡ false
  unfolding listed
  live-unnamed es later u =
      changes-unnamed id (live_among es later)
      (by-test (are_named id later) (λ n. live-renewed es later n) (λ f. live-changes es later f ∙ ap listed (lookup-unnamed id es u)))

-- An entry is among the live ones exactly where it tells of its ID, which is not named later.
pub live-lookup : (es later : List Entry) {e : Entry} → Memᴰ e (live_among es later) → (id : ℕ) × IsTold id es e × (are_named id later ≡ false)
live-lookup [] later m = absurd (Memᴰ.not-nil (rw live-empty at m))
live-lookup (x ∷ xs) later {e} m =
    let further : Memᴰ e (live_among xs later) → (id : ℕ) × IsTold id (x ∷ xs) e × (are_named id later ≡ false) =
    λ n. let (id, p, u) = live-lookup xs later n in (id, lookup-further id x xs p, u) in
    let cases : Memᴰ e (live_among (x ∷ xs) later) → (id : ℕ) × IsTold id (x ∷ xs) e × (are_named id later ≡ false) =
    live-cases x xs later (λ l. Memᴰ e l → (id : ℕ) × IsTold id (x ∷ xs) e × (are_named id later ≡ false))
    (λ t n.
    ⊎_elim
    (λ same.
    let l : IsLive x (xs ++ later) = live-is x (xs ++ later) t in
    let (behind, later-on) = unnamed-parts l.id xs later l.newest in
    (l.id, lookup-here l.id x xs (sym same) l.valued behind, later-on))
    further
    (Memᴰ.cases_cons n))
    (λ f n. further n) in
    cases m

pub lookup-live : (id : ℕ) (es later : List Entry) (e : Entry) → IsTold id es e → are_named id later ≡ false → Memᴰ e (live_among es later)
lookup-live id es later e p u =
    let newest : are_named id (p.after ++ later) ≡ false = unnamed-both id p.after later p.newest u in
    let model_after : is_live e (p.after ++ later) ≡ true = is_live_lem e (p.after ++ later) (record { id = id; valued = p.valued; newest = newest }) in
    let older : List Entry = live_among p.before ((e ∷ p.after) ++ later) in
    let whole : live_among es later ≡ older ++ (e ∷ live_among p.after later) =
    ap (λ (l : List Entry). live_among l later) p.placed ∙ live-append p.before (e ∷ p.after) later
    ∙ ap (λ (l : List Entry). older ++ l) (live-kept e p.after later model_after) in
    rw whole (Memᴰ.append_right older (Memᴰ.head refl))

-- it is then what the whole history tells
pub live-matches : (es later : List Entry) {e : Entry} → Memᴰ e (live_among es later) → (id : ℕ) × IsValueOf id e × (lookup id (es ++ later) ≡ some e)
live-matches es later {e} m =
    let (id, p, u) = live-lookup es later m in
    (id, p.valued, lookup-silent id es later u ∙ place-lookup id es e p)

-- Live values are live among themselves, before entries that name nothing.
pub live-again : (es later behind : List Entry) → ((id : ℕ) → are_named id behind ≡ false) → live_among (live_among es later) behind ≡ live_among es later
live-again [] later behind silent = simp live-empty
live-again (e ∷ es) later behind silent =
    let rest : live_among (live_among es later) behind ≡ live_among es later = live-again es later behind silent in
    live-cases e es later (λ l. live_among l behind ≡ l)
    (λ t.
    let l : IsLive e (es ++ later) = live-is e (es ++ later) t in
    let among : are_named l.id (live_among es later) ≡ false = live-unnamed l.id es later (unnamed-parts l.id es later l.newest).0 in
    let newest : are_named l.id (live_among es later ++ behind) ≡ false = unnamed-both l.id (live_among es later) behind among (silent l.id) in
    let model_after : is_live e (live_among es later ++ behind) ≡ true = is_live_lem e (live_among es later ++ behind) (record { id = l.id; valued = l.valued; newest = newest }) in
    live-kept e (live_among es later) behind model_after ∙ ap (λ (r : List Entry). e ∷ r) rest)
    (λ f. rest)
