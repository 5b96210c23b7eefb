-- Laws of an ID's entries: which they are in a history that is put together, and which of them tells.
use mathlib.Core.Path.{◌≡◌, refl, sym, ap, subst, ◌∙◌}
use mathlib.Core.Bool.{Bool, true, false, ◌||◌, or-true, or-false, false≢true}
use mathlib.Core.List.{List, [], ◌∷◌, ◌++◌, append_assoc, reverse-append}
use mathlib.Core.Option.{none, some}
use Prim.Native.Nat.{ℕ}
use native.Mathlib.Omega.{arith}
use borrow.Author.Tests.{eqb-true, eq-eqb}
use Rattle.rules.specs.Notation.{when, any, select}
use Rattle.rules.specs.Look.{Head, done, deletion, value}
use Rattle.rules.specs.Reading.{Entry}
use Rattle.rules.specs.Meaning.{is_named, is_value, changes_of, newest_value, lookup}
use Rattle.rules.specs.Stores.{done_entry}
use Rattle.rules.proofs.Basics.Notation.{both_false, when_true, when-some, refuted}
use Rattle.rules.proofs.Basics.Notation.{by-test}
use Rattle.rules.proofs.Basics.Places.{any_append}

module _ {ℓ} {A : Type ℓ} (test : A → Bool) where
  pub select-append : (xs ys : List A) → select test (xs ++ ys) ≡ select test xs ++ select test ys
  unfolding select
  select-append [] ys = refl
  select-append (x ∷ xs) ys = by-test (test x) (λ t. simp (t, select-append xs ys)) (λ f. simp (f, select-append xs ys))

-- does one of these entries name the ID?
abbrev pub are_named : (id : ℕ) → List Entry → Bool
are_named id es = any (λ (e : Entry). is_named id e.head) es

module _ (id : ℕ) where
  pub named-left : (xs ys : List Entry) → are_named id xs ≡ true → are_named id (xs ++ ys) ≡ true
  named-left xs ys n = simp (any_append, n)

  pub named-right : (xs ys : List Entry) → are_named id ys ≡ true → are_named id (xs ++ ys) ≡ true
  named-right xs ys n = simp (any_append, n, or-true)

  pub unnamed-both : (xs ys : List Entry) → are_named id xs ≡ false → are_named id ys ≡ false → are_named id (xs ++ ys) ≡ false
  unnamed-both xs ys n m = simp (any_append, n, m)

  pub unnamed-parts : (xs ys : List Entry) → are_named id (xs ++ ys) ≡ false → (are_named id xs ≡ false) × (are_named id ys ≡ false)
  unnamed-parts xs ys n = both_false (are_named id xs) (are_named id ys) (sym (any_append _ xs ys) ∙ n)

  -- done names nothing
  pub unnamed-done : are_named id (done_entry ∷ []) ≡ false
  unfolding any is_named done_entry
  unnamed-done = refl

  -- the entries of an ID in a history that is put together
  pub changes-append : (xs ys : List Entry) → changes_of id (xs ++ ys) ≡ changes_of id ys ++ changes_of id xs
  unfolding changes_of
  changes-append xs ys = simp (reverse-append xs ys, select-append)

  pub changes-empty : changes_of id [] ≡ []
  unfolding changes_of select
  changes-empty = refl

  pub changes-named : (e : Entry) → is_named id e.head ≡ true → changes_of id (e ∷ []) ≡ e ∷ []
  unfolding changes_of select
  changes-named e n = simp n

  pub changes-other : (e : Entry) → is_named id e.head ≡ false → changes_of id (e ∷ []) ≡ []
  unfolding changes_of select
  changes-other e n = simp n

  pub changes-cons : (e : Entry) (es : List Entry) → changes_of id (e ∷ es) ≡ changes_of id es ++ changes_of id (e ∷ [])
  changes-cons e es = changes-append (e ∷ []) es

  -- There are none exactly where no entry names the ID.
  pub unnamed-changes : (es : List Entry) → are_named id es ≡ false → changes_of id es ≡ []
  unfolding any
  unnamed-changes [] u = changes-empty
  unnamed-changes (e ∷ es) u =
      let (here, rest) = both_false (is_named id e.head) (are_named id es) u in
      simp (changes-cons e es, unnamed-changes es rest, changes-other e here)

  -- where one does, there is a newest
  pub named-changes : (es : List Entry) → are_named id es ≡ true → (newest : Entry) × (older : List Entry) × (changes_of id es ≡ newest ∷ older)
  unfolding any
  named-changes [] n = absurd (false≢true n)
  named-changes (e ∷ es) n =
      by-test (are_named id es)
      (λ t.
      let (newest, older, is) = named-changes es t in
      (newest, older ++ changes_of id (e ∷ []), changes-cons e es ∙ ap (λ (l : List Entry). l ++ changes_of id (e ∷ [])) is))
      (λ f.
      let here : is_named id e.head ≡ true = sym (or-false (is_named id e.head)) ∙ ap (λ (b : Bool). is_named id e.head || b) (sym f) ∙ n in
      (e, [], simp (changes-cons e es, unnamed-changes es f, changes-named e here)))

  pub changes-unnamed : (es : List Entry) → changes_of id es ≡ [] → are_named id es ≡ false
  changes-unnamed es nothing =
      refuted (are_named id es)
      (λ t. let (newest, older, is) = named-changes es t in let z : ◌≡◌ {A = ℕ} 0 1 = cc in omega arith)

  -- an appended part that does not name it
  pub changes-silent : (xs ys : List Entry) → are_named id ys ≡ false → changes_of id (xs ++ ys) ≡ changes_of id xs
  changes-silent xs ys u = simp (changes-append xs ys, unnamed-changes ys u)

  -- What is told goes by the newest part that names the ID.
  pub lookup-silent : (xs ys : List Entry) → are_named id ys ≡ false → lookup id (xs ++ ys) ≡ lookup id xs
  unfolding lookup
  lookup-silent xs ys u = ap newest_value (changes-silent xs ys u)

  pub lookup-renewed : (xs ys : List Entry) → are_named id ys ≡ true → lookup id (xs ++ ys) ≡ lookup id ys
  unfolding lookup newest_value
  lookup-renewed xs ys n = let (newest, older, is) = named-changes ys n in simp (changes-append xs ys, is)

  pub lookup-empty : lookup id [] ≡ none
  unfolding lookup newest_value
  lookup-empty = ap newest_value changes-empty

  pub lookup-unnamed : (es : List Entry) → are_named id es ≡ false → lookup id es ≡ none
  lookup-unnamed es u = lookup-silent [] es u ∙ lookup-empty

  -- an appended entry
  pub lookup-other : (xs : List Entry) (e : Entry) → is_named id e.head ≡ false → lookup id (xs ++ (e ∷ [])) ≡ lookup id xs
  unfolding any
  lookup-other xs e n = lookup-silent xs (e ∷ []) (simp n)

  pub lookup-named : (xs : List Entry) (e : Entry) → is_named id e.head ≡ true → lookup id (xs ++ (e ∷ [])) ≡ when (is_value e.head) e
  unfolding any lookup newest_value
  lookup-named xs e n = lookup-renewed xs (e ∷ []) (simp n) ∙ ap newest_value (changes-named e n)

  pub lookup-done : (xs : List Entry) → lookup id (xs ++ (done_entry ∷ [])) ≡ lookup id xs
  lookup-done xs = lookup-silent xs (done_entry ∷ []) unnamed-done

-- a value of the ID
pub record IsValueOf (id : ℕ) (e : Entry) : Type 0 where
  pub length : ℕ
  pub is : e.head ≡ value id length

module _ (id : ℕ) (e : Entry) where
  pub value-named : IsValueOf id e → is_named id e.head ≡ true
  unfolding is_named
  value-named v = simp (v.is, eq-eqb id id refl)

  pub value-valued : IsValueOf id e → is_value e.head ≡ true
  unfolding is_value
  value-valued v = simp v.is

  pub named_value : is_named id e.head ≡ true → is_value e.head ≡ true → IsValueOf id e
  unfolding is_named is_value
  named_value n v = go e.head refl n v
    where
      go : (h : Head) → e.head ≡ h → is_named id h ≡ true → is_value h ≡ true → IsValueOf id e
      go done same named valued = absurd (false≢true named)
      go (deletion i) same named valued = absurd (false≢true valued)
      go (value i len) same named valued = record { length = len; is = same ∙ ap (λ (k : ℕ). value k len) (eqb-true i id named) }

-- "The newest entry of an ID tells": a value of the ID that nothing behind it names again.
pub record IsTold (id : ℕ) (es : List Entry) (e : Entry) : Type 0 where
  pub before : List Entry
  pub after : List Entry
  pub placed : es ≡ before ++ (e ∷ after)
  pub valued : IsValueOf id e
  pub newest : are_named id after ≡ false

-- it stands in front, or further on
module _ (id : ℕ) (x : Entry) (xs : List Entry) {e : Entry} where
  pub lookup-here : x ≡ e → IsValueOf id x → are_named id xs ≡ false → IsTold id (x ∷ xs) e
  lookup-here same v u = record { before = []; after = xs; placed = ap (λ (y : Entry). y ∷ xs) same; valued = subst (λ (y : Entry). IsValueOf id y) same v; newest = u }

  pub lookup-further : IsTold id xs e → IsTold id (x ∷ xs) e
  lookup-further p = record { before = x ∷ p.before; after = p.after; placed = ap (λ (l : List Entry). x ∷ l) p.placed; valued = p.valued; newest = p.newest }

-- What is told is such an entry,
pub lookup-place : (id : ℕ) (es : List Entry) {e : Entry} → lookup id es ≡ some e → IsTold id es e
lookup-place id [] t = let z : ◌≡◌ {A = ℕ} 0 1 = cc (lookup-empty id) in absurd (omega arith)
lookup-place id (x ∷ xs) {e} t =
    by-test (are_named id xs)
    (λ n. lookup-further id x xs (lookup-place id xs (sym (lookup-renewed id (x ∷ []) xs n) ∙ t)))
    (λ u. let alone : lookup id (x ∷ []) ≡ some e = sym (lookup-silent id (x ∷ []) xs u) ∙ t in
    by-test (is_named id x.head)
    (λ n.
    let (v, same) = when-some (is_value x.head) x (sym (lookup-named id [] x n) ∙ alone) in
    lookup-here id x xs same (named_value id x n v) u)
    (λ other. let z : ◌≡◌ {A = ℕ} 0 1 = cc (lookup-empty id, lookup-other id [] x other) in absurd (omega arith)))

-- and such an entry is told.
pub place-lookup : (id : ℕ) (es : List Entry) (e : Entry) → IsTold id es e → lookup id es ≡ some e
place-lookup id es e p =
    let first : List Entry = p.before ++ (e ∷ []) in
    ap (lookup id) (p.placed ∙ sym (append_assoc p.before (e ∷ []) p.after))
    ∙ lookup-silent id first p.after p.newest
    ∙ lookup-named id p.before e (value-named id e p.valued)
    ∙ simp (value-valued id e p.valued, when_true)
