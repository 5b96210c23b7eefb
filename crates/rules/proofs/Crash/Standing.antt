-- What holds of the views at every cut: the image is a store, and tells what it told, also after the mount that comes next.
use mathlib.Core.Path.{◌≡◌, refl, sym, ap, subst, ◌∙◌}
use mathlib.Core.List.{List, [], ◌∷◌, ◌++◌, append_assoc, append-nil, head-eq_of_cons-eq, tail-eq_of_cons-eq}
use mathlib.Core.Option.{Option}
use Prim.Native.Nat.{ℕ, ◌<◌, ◌≤◌}
use lib.ListN.{length}
use Rattle.rules.specs.Notation.{concat}
use Rattle.rules.specs.Reading.{Entry, View}
use Rattle.rules.specs.Meaning.{State, at_rest, not_reopened, mid_turn, view_at, next, all_but, ending_at, counting, IsRest, IsNotReopened, IsMidTurn, Is, history, entries_in, lookup, live_among}
use Rattle.rules.specs.Stores.{done_entry}
use Rattle.rules.proofs.Ring.History.{entries_each, entries_in-each}
use Rattle.rules.proofs.Ring.Order.{Ring, ring, all_but_two, ending-last}
use Rattle.rules.proofs.Ring.Turns.{lookup-copied, lookup-turned}

concat-append : (xs ys : List (List Entry)) → concat (xs ++ ys) ≡ concat xs ++ concat ys
unfolding concat
concat-append [] ys = refl
concat-append (x ∷ xs) ys = ap (λ (es : List Entry). x ++ es) (concat-append xs ys) ∙ sym (append_assoc x (concat xs) (concat ys))

pub entries_each-append : (xs ys : List View) → entries_each (xs ++ ys) ≡ entries_each xs ++ entries_each ys
entries_each-append [] ys = refl
entries_each-append (x ∷ xs) ys = ap (λ (l : List (List Entry)). x.entries ∷ l) (entries_each-append xs ys)

-- the last of some entries_each
pub concat-snoc : (xs : List (List Entry)) (x : List Entry) → concat (xs ++ (x ∷ [])) ≡ concat xs ++ x
unfolding concat
concat-snoc xs x = concat-append xs (x ∷ []) ∙ ap (λ (es : List Entry). concat xs ++ es) (append-nil x)

-- The ring seen from the next sector: the oldest of all but u stands behind u, and u is the newest of all but that one.
pub ring-next : (views : List View) (u : ℕ) {o : List Entry} {others : List (List Entry)} → 2 ≤ length views → u < length views → entries_each (all_but u views) ≡ o ∷ others
    → ((view_at views (next (length views) u)).entries ≡ o) × (entries_each (all_but (next (length views) u) views) ≡ others ++ ((view_at views u).entries ∷ []))
ring-next views u {o} {others} two here e =
    let turn : Ring u views = ring u views here two in
    let rest : List View = all_but_two u views in
    let split : (view_at views (next (length views) u)).entries ∷ entries_each rest ≡ o ∷ others = sym (ap entries_each turn.oldest) ∙ e in
    (head-eq_of_cons-eq split, ap entries_each turn.newest ∙ entries_each-append rest (view_at views u ∷ []) ∙ ap (λ (l : List (List Entry)). l ++ ((view_at views u).entries ∷ [])) (tail-eq_of_cons-eq split))

-- the history that a finished mount would leave
unfoldable pub settled : State → List View → List Entry
settled (at_rest w) views = history (at_rest w) views
settled (not_reopened w) views = entries_in (all_but (next (length views) w) views)
settled (mid_turn u) views = history (mid_turn u) views

-- S sectors in one of the three states, which tell each ID what T says, now and after a mount
pub record Stands (S : ℕ) (T : ℕ → Option Entry) (views : List View) : Type 0 where
  pub sized : length views ≡ S
  pub state : State
  pub is : Is views state
  pub matches : (id : ℕ) → lookup id (history state views) ≡ T id
  pub matches_later : (id : ℕ) → lookup id (settled state views) ≡ T id

-- At rest with the entries of the sectors that count, oldest first.
pub record Rests (S w : ℕ) (ring : List (List Entry)) (views : List View) : Type 0 where
  pub sized : length views ≡ S
  pub is : IsRest views w
  pub held : entries_each (all_but (next S w) views) ≡ ring

-- Mid-turn, with so many copies made.
pub record Copies (S u : ℕ) (ring : List (List Entry)) (copied : List Entry) (views : List View) : Type 0 where
  pub sized : length views ≡ S
  pub is : IsMidTurn views u
  pub held : entries_each (all_but u views) ≡ ring
  pub made : (view_at views u).entries ≡ copied

-- Done, not reopened.
pub record Finished (S u : ℕ) (ring : List (List Entry)) (copied : List Entry) (views : List View) : Type 0 where
  pub sized : length views ≡ S
  pub is : IsNotReopened views u
  pub held : entries_each (all_but u views) ≡ ring
  pub made : (view_at views u).entries ≡ copied ++ (done_entry ∷ [])

-- the ring after a turn: the oldest sector's live values, and done, at the new end
abbrev pub turned : List (List Entry) → List (List Entry)
turned [] = []
turned (o ∷ others) = others ++ ((live_among o (concat others) ++ (done_entry ∷ [])) ∷ [])

module _ (S : ℕ) (T : ℕ → Option Entry) where
  -- a turn tells the same
  pub turned-matches : (ring : List (List Entry)) → ((id : ℕ) → lookup id (concat ring) ≡ T id) → (id : ℕ) → lookup id (concat (turned ring)) ≡ T id
  unfolding concat
  turned-matches [] t id = t id
  turned-matches (o ∷ others) t id =
      ap (lookup id) (concat-snoc others (live_among o (concat others) ++ (done_entry ∷ []))) ∙ lookup-turned id o (concat others) ∙ t id

  pub rests-stand : {w : ℕ} {ring : List (List Entry)} {views : List View} → ((id : ℕ) → lookup id (concat ring) ≡ T id) → Rests S w ring views → Stands S T views
  unfolding history counting settled Is
  rests-stand {w} {ring} {views} t r =
      let same : (id : ℕ) → lookup id (history (at_rest w) views) ≡ T id =
      λ id. ap (lookup id) (ap (λ (n : ℕ). entries_in (all_but (next n w) views)) r.sized ∙ entries_in-each (all_but (next S w) views) ∙ ap concat r.held) ∙ t id in
      record { sized = r.sized; state = at_rest w; is = r.is; matches = same; matches_later = same }

  pub copies-stand : {u : ℕ} {ring : List (List Entry)} {copied : List Entry} {views : List View} → ((id : ℕ) → lookup id (concat ring) ≡ T id) → Copies S u ring copied views → Stands S T views
  unfolding history counting settled Is
  copies-stand {u} {ring} {copied} {views} t r =
      let same : (id : ℕ) → lookup id (history (mid_turn u) views) ≡ T id =
      λ id. ap (lookup id) (entries_in-each (all_but u views) ∙ ap concat r.held) ∙ t id in
      record { sized = r.sized; state = mid_turn u; is = r.is; matches = same; matches_later = same }

  -- the oldest sector o, the others, and the copies of what lives in o
  pub finished-stands : {u : ℕ} {o : List Entry} {others : List (List Entry)} {views : List View} → 2 ≤ S
      → ((id : ℕ) → lookup id (concat (o ∷ others)) ≡ T id)
      → Finished S u (o ∷ others) (live_among o (concat others)) views → Stands S T views
  unfolding history counting settled Is concat
  finished-stands {u} {o} {others} {views} two t r =
      record {
        sized = r.sized;
        state = not_reopened u;
        is = r.is;
        matches = λ id. ap (lookup id) now ∙ lookup-copied id o (concat others) ∙ t id;
        matches_later = λ id. ap (lookup id) later ∙ lookup-turned id o (concat others) ∙ t id;
      }
    where
      copies : List Entry
      copies = live_among o (concat others) ++ (done_entry ∷ [])

      now : entries_in (ending_at u views) ≡ (o ++ concat others) ++ copies
      now =
          ap entries_in (ending-last u views r.is.here) ∙ entries_in-each (all_but u views ++ (view_at views u ∷ []))
          ∙ ap concat (entries_each-append (all_but u views) (view_at views u ∷ [])) ∙ concat-snoc (entries_each (all_but u views)) (view_at views u).entries
          ∙ ap (λ (l : List (List Entry)). concat l ++ (view_at views u).entries) r.held
          ∙ ap (λ (es : List Entry). (o ++ concat others) ++ es) r.made

      later : entries_in (all_but (next (length views) u) views) ≡ concat others ++ copies
      later =
          entries_in-each (all_but (next (length views) u) views)
          ∙ ap concat (ring-next views u (subst (λ (n : ℕ). 2 ≤ n) (sym r.sized) two) r.is.here r.held).1
          ∙ concat-snoc others (view_at views u).entries
          ∙ ap (λ (es : List Entry). concat others ++ es) r.made
