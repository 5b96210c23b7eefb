-- The three states: what `state_of` answers is what the paper's predicates say, and no two of them hold at once.
use mathlib.Core.Path.{◌≡◌, refl, sym, ap, subst, ◌∙◌}
use mathlib.Core.Bool.{Bool, true, false, not, ◌&&◌, and-false, false≢true}
use mathlib.Core.List.{List, [], ◌∷◌}
use mathlib.Core.Option.{none, some, some-injective, none-ne-some}
use Prim.Native.Nat.{ℕ, ◌<◌}
use lib.Dec.{eqb}
use lib.ListN.{length}
use borrow.Author.Tests.{eq-eqb, eqb-true, not-true}
use Rattle.rules.specs.Notation.{all, places_from, is_empty}
use Rattle.rules.specs.Reading.{Entry, View}
use Rattle.rules.specs.Meaning.{State, at_rest, not_reopened, mid_turn, has_done, is_working, is_unfinished, next, no_view, view_at, state_by, state_of, IsRest, IsNotReopened, IsMidTurn, Is}
use Rattle.rules.proofs.Basics.Notation.{took-then, when_true, when-some, both_true}
use Rattle.rules.proofs.Basics.Places.{Nowhere, Only, all-each, each_all, no-places, nowhere-places, one_place, only-place, here-or}
use Rattle.rules.proofs.Ring.Order.{next-lt}

-- Every sector has one class, and not the other two.
pub data Class (v : View) : Type 0 where
  closed : v.closed ≡ true → is_working v ≡ false → is_unfinished v ≡ false → Class v
  working : v.closed ≡ false → is_working v ≡ true → is_unfinished v ≡ false → Class v
  unfinished : v.closed ≡ false → is_working v ≡ false → is_unfinished v ≡ true → Class v

pub class : (v : View) → Class v
unfolding is_working is_unfinished
class v = go v.closed (has_done v) refl refl
  where
    go : (c d : Bool) → v.closed ≡ c → has_done v ≡ d → Class v
    go true d e f = closed e (simp e) (simp e)
    go false true e f = working e (simp (e, f)) (simp (e, f))
    go false false e f = unfinished e (simp (e, f)) (simp (e, f))

-- two answers of one test
pub clash : {C : Type 0} {b : Bool} → b ≡ false → b ≡ true → C
clash f t = absurd (false≢true (sym f ∙ t))

-- what one class says of the others
pub closed-only : (v : View) → v.closed ≡ true → (is_working v ≡ false) × (is_unfinished v ≡ false)
unfolding is_working is_unfinished
closed-only v c = (simp c, simp c)

pub working-only : (v : View) → is_working v ≡ true → (v.closed ≡ false) × (is_unfinished v ≡ false)
unfolding is_working is_unfinished
working-only v t =
    let (unclosed, has) = both_true (not v.closed) (has_done v) t in
    (not-true v.closed unclosed, simp (has, and-false))

pub unfinished-only : (v : View) → is_unfinished v ≡ true → (v.closed ≡ false) × (is_working v ≡ false)
unfolding is_working is_unfinished
unfinished-only v t =
    let (unclosed, lacks) = both_true (not v.closed) (not (has_done v)) t in
    (not-true v.closed unclosed, simp (not-true (has_done v) lacks, and-false))

pub neither-closed : (v : View) → is_working v ≡ false → is_unfinished v ≡ false → v.closed ≡ true
neither-closed v f g = go (class v)
  where
    go : Class v → v.closed ≡ true
    go (closed e w u) = e
    go (working e w u) = clash f w
    go (unfinished e w u) = clash g u

no-entries : (es : List Entry) → is_empty es ≡ true → es ≡ []
unfolding is_empty
no-entries [] e = refl
no-entries (x ∷ xs) e = clash refl e

-- "all leads are right"
abbrev pub AllLed : List View → Type 0
AllLed views = (s : ℕ) → s < length views → (view_at views s).led ≡ true

-- What is answered holds.
module _ (views : List View) where
  mid-turn-is : AllLed views → (u : ℕ) → Nowhere is_working no_view views → Only is_unfinished no_view views u → IsMidTurn views u
  unfolding view_at
  mid-turn-is led u no-working one =
      record { led = led; here = one.here; unfinished = one.holds; others = λ s h n. neither-closed (view_at views s) (no-working s h) (one.others s h n) }

  not-reopened-is : AllLed views → (w : ℕ) → Only is_working no_view views w → Nowhere is_unfinished no_view views → IsNotReopened views w
  unfolding view_at
  not-reopened-is led w one no-unfinished =
      record { led = led; here = one.here; working = one.holds; others = λ s h n. neither-closed (view_at views s) (one.others s h n) (no-unfinished s h) }

  rest-is : AllLed views → (w : ℕ) → Only is_working no_view views w → Only is_unfinished no_view views (next (length views) w)
      → (view_at views (next (length views) w)).entries ≡ [] → IsRest views w
  unfolding view_at
  rest-is led w one spare unused =
      record { led = led; here = one.here; working = one.holds; spare = spare.holds; unused = unused; others = λ s h n m. neither-closed (view_at views s) (one.others s h n) (spare.others s h m) }

  same-state : (s state : State) → some s ≡ some state → Is views s → Is views state
  same-state s state e is = subst (λ (x : State). Is views x) (some-injective s state e) is

  state-by-is : AllLed views → (state : State) (ws us : List ℕ) → places_from 0 is_working views ≡ ws → places_from 0 is_unfinished views ≡ us
      → state_by views ws us ≡ some state → Is views state
  unfolding state_by Is
  state-by-is led state [] [] pw pu e = absurd (none-ne-some state e)
  state-by-is led state [] (u ∷ []) pw pu e =
      same-state (mid_turn u) state e (mid-turn-is led u (no-places is_working no_view views pw) (one_place is_unfinished no_view views u pu))
  state-by-is led state [] (u ∷ u' ∷ us) pw pu e = absurd (none-ne-some state e)
  state-by-is led state (w ∷ []) [] pw pu e =
      same-state (not_reopened w) state e (not-reopened-is led w (one_place is_working no_view views w pw) (no-places is_unfinished no_view views pu))
  state-by-is led state (w ∷ []) (u ∷ []) pw pu e =
      let (tests, same) = when-some (eqb u (next (length views) w) && is_empty (view_at views u).entries) (at_rest w) e in
      let (follows, unused) = both_true (eqb u (next (length views) w)) (is_empty (view_at views u).entries) tests in
      let successor : u ≡ next (length views) w = eqb-true u (next (length views) w) follows in
      let spare : Only is_unfinished no_view views (next (length views) w) = one_place is_unfinished no_view views (next (length views) w) (pu ∙ cc) in
      let empty : (view_at views (next (length views) w)).entries ≡ [] = ap (λ (s : ℕ). (view_at views s).entries) (sym successor) ∙ no-entries (view_at views u).entries unused in
      subst (λ (x : State). Is views x) same (rest-is led w (one_place is_working no_view views w pw) spare empty)
  state-by-is led state (w ∷ []) (u ∷ u' ∷ us) pw pu e = absurd (none-ne-some state e)
  state-by-is led state (w ∷ w' ∷ ws) us pw pu e = absurd (none-ne-some state e)

  pub state-is : (state : State) → state_of views ≡ some state → Is views state
  unfolding state_of view_at
  state-is state e =
      let (led, by) = took-then (all (λ (v : View). v.led) views) (state_by views (places_from 0 is_working views) (places_from 0 is_unfinished views)) none (none-ne-some state) e in
      state-by-is (all-each (λ (v : View). v.led) no_view views led) state (places_from 0 is_working views) (places_from 0 is_unfinished views) refl refl by

  -- What holds is answered.
  answered : AllLed views → {state : State} (ws us : List ℕ) → places_from 0 is_working views ≡ ws → places_from 0 is_unfinished views ≡ us
      → state_by views ws us ≡ some state → state_of views ≡ some state
  unfolding state_of view_at
  answered led ws us pw pu e = simp (each_all (λ (v : View). v.led) no_view views led, pw, pu, e)

  pub is_state : (state : State) → Is views state → state_of views ≡ some state
  unfolding Is state_by view_at is_empty
  is_state (at_rest w) is =
      let n : ℕ = next (length views) w in
      let not-working : is_working (view_at views n) ≡ false = (unfinished-only (view_at views n) is.spare).1 in
      let not-unfinished : is_unfinished (view_at views w) ≡ false = (working-only (view_at views w) is.working).1 in
      answered is.led (w ∷ []) (n ∷ [])
      (only-place is_working no_view views w (record {
        here = is.here;
        holds = is.working;
        others = λ s h other. here-or (λ p. is_working (view_at views p) ≡ false) n s not-working (λ m. (closed-only (view_at views s) (is.others s h other m)).0);
      }))
      (only-place is_unfinished no_view views n (record {
        here = next-lt (length views) w is.here;
        holds = is.spare;
        others = λ s h m. here-or (λ p. is_unfinished (view_at views p) ≡ false) w s not-unfinished (λ other. (closed-only (view_at views s) (is.others s h other m)).1);
      }))
      (simp (eq-eqb n n refl, is.unused, when_true))
  is_state (not_reopened w) is =
      answered is.led (w ∷ []) []
      (only-place is_working no_view views w (record { here = is.here; holds = is.working; others = λ s h other. (closed-only (view_at views s) (is.others s h other)).0 }))
      (nowhere-places is_unfinished no_view views
      (λ s h. here-or (λ p. is_unfinished (view_at views p) ≡ false) w s (working-only (view_at views w) is.working).1 (λ other. (closed-only (view_at views s) (is.others s h other)).1)))
      refl
  is_state (mid_turn u) is =
      answered is.led [] (u ∷ [])
      (nowhere-places is_working no_view views
      (λ s h. here-or (λ p. is_working (view_at views p) ≡ false) u s (unfinished-only (view_at views u) is.unfinished).1 (λ other. (closed-only (view_at views s) (is.others s h other)).0)))
      (only-place is_unfinished no_view views u (record { here = is.here; holds = is.unfinished; others = λ s h other. (closed-only (view_at views s) (is.others s h other)).1 }))
      refl

  -- No two states at once.
  pub one_state : (s s' : State) → Is views s → Is views s' → s ≡ s'
  one_state s s' is is' = some-injective s s' (sym (is_state s is) ∙ is_state s' is')
