-- The states over the events of a turn: close, copy, done, reopen; and the add at rest.
use mathlib.Core.Path.{◌≡◌, refl, sym, ap, subst, ◌∙◌}
use mathlib.Core.Bool.{Bool, true, false, not, ◌||◌, or-false, or-true}
use mathlib.Core.List.{List, [], ◌∷◌}
use Prim.Native.Nat.{ℕ, ◌<◌, ◌≤◌}
use native.Mathlib.Omega.{arith}
use lib.ListN.{length}
use Rattle.rules.specs.Notation.{any}
use Rattle.rules.specs.Look.{is_done}
use Rattle.rules.specs.Reading.{Entry, View}
use Rattle.rules.specs.Meaning.{has_done, is_working, is_unfinished, next, view_at, IsRest, IsNotReopened, IsMidTurn}
use Rattle.rules.proofs.Terms.{closed_view, added_view, reopened_view, changed}
use Rattle.rules.proofs.Basics.Notation.{both_true}
use Rattle.rules.proofs.Basics.Places.{any_append, here-or}
use Rattle.rules.proofs.Ring.Order.{next-lt, next-ne}
use Rattle.rules.proofs.Ring.History.{changed-length, changed-here, changed-other}
use Rattle.rules.proofs.Ring.States.{AllLed, clash, unfinished-only}

-- What one more entry does to a sector's class: a done is seen once it stands, and nothing else makes one.
pub added-done : (e : Entry) (v : View) → has_done (added_view e v) ≡ (has_done v || is_done e.head)
unfolding has_done any
added-done e v = any_append (λ (x : Entry). is_done x.head) v.entries (e ∷ []) ∙ ap (λ (b : Bool). has_done v || b) (or-false (is_done e.head))

pub added-unfinished : (e : Entry) (v : View) → is_done e.head ≡ false → is_unfinished v ≡ true → is_unfinished (added_view e v) ≡ true
unfolding is_unfinished
added-unfinished e v other t = simp (added-done e v, other, or-false) t

pub done-working : (e : Entry) (v : View) → is_done e.head ≡ true → is_unfinished v ≡ true → is_working (added_view e v) ≡ true
unfolding is_working
done-working e v d t = rw (added-done e v, d, or-true, (unfinished-only v t).0)

pub added-working : (e : Entry) (v : View) → is_working v ≡ true → is_working (added_view e v) ≡ true
unfolding is_working
added-working e v t =
    let (open-still, has) = both_true (not v.closed) (has_done v) t in
    simp (open-still, added-done e v, has)

pub reopened-unfinished : (v : View) → is_unfinished (reopened_view v) ≡ true
unfolding is_unfinished has_done any
reopened-unfinished v = refl

-- A fact of each sector after a change: of the one that changed, and of the others as they were.
module _ (f : View → View) (u : ℕ) (views : List View) (here : u < length views) where
  each_after : (P : View → Type 0) → P (f (view_at views u)) → (s : ℕ) → ((s ≡ u → ⊥) → P (view_at views s)) → P (view_at (changed f u views) s)
  each_after P p s other =
      here-or (λ (n : ℕ). P (view_at (changed f u views) n)) u s
      (subst P (sym (changed-here f u views here)) p)
      (λ n. subst P (sym (changed-other f u views s n)) (other n))

  inside : (s : ℕ) → s < length (changed f u views) → s < length views
  inside s h = let sized : length (changed f u views) ≡ length views = changed-length f u views in omega arith

  inside-still : (s : ℕ) → s < length views → s < length (changed f u views)
  inside-still s h = let sized : length (changed f u views) ≡ length views = changed-length f u views in omega arith

  led-after : (f (view_at views u)).led ≡ true → AllLed views → AllLed (changed f u views)
  led-after keeps led s h = each_after (λ (v : View). v.led ≡ true) keeps s (λ _. led s (inside s h))

  -- where only u was not closed, so it is after the change
  closed_after : ((s : ℕ) → s < length views → (s ≡ u → ⊥) → (view_at views s).closed ≡ true)
      → (s : ℕ) → s < length (changed f u views) → (s ≡ u → ⊥) → (view_at (changed f u views) s).closed ≡ true
  closed_after others s h n = ap (λ (v : View). v.closed) (changed-other f u views s n) ∙ others s (inside s h) n

  mid-turn-after : IsMidTurn views u → (f (view_at views u)).led ≡ true → is_unfinished (f (view_at views u)) ≡ true → IsMidTurn (changed f u views) u
  mid-turn-after is keeps t =
      record {
        led = led-after keeps is.led;
        here = inside-still u here;
        unfinished = ap is_unfinished (changed-here f u views here) ∙ t;
        others = closed_after is.others;
      }

-- Rest, by whatever number its spare is known.
rest_at : (views : List View) (w n : ℕ) → next (length views) w ≡ n → AllLed views
    → w < length views → is_working (view_at views w) ≡ true → is_unfinished (view_at views n) ≡ true → (view_at views n).entries ≡ []
    → ((s : ℕ) → s < length views → (s ≡ w → ⊥) → (s ≡ n → ⊥) → (view_at views s).closed ≡ true) → IsRest views w
rest_at views w n e led here working spare unused others =
    record {
      led = led;
      here = here;
      working = working;
      spare = ap (λ (s : ℕ). is_unfinished (view_at views s)) e ∙ spare;
      unused = ap (λ (s : ℕ). (view_at views s).entries) e ∙ unused;
      others = λ s h a b. others s h a (λ q. b (q ∙ sym e));
    }

module _ (views : List View) (w : ℕ) where
  -- the sector behind the working one is another
  pub spare-other : IsRest views w → next (length views) w ≡ w → ⊥
  spare-other is e =
      let working-too : is_working (view_at views (next (length views) w)) ≡ true = ap (λ (s : ℕ). is_working (view_at views s)) e ∙ is.working in
      clash (unfinished-only (view_at views (next (length views) w)) is.spare).1 working-too

  -- and so there are two sectors at least
  pub rest-two : IsRest views w → 2 ≤ length views
  rest-two is =
      let n : ℕ = next (length views) w in
      let below : n < length views = next-lt (length views) w is.here in
      let other : n ≡ w → ⊥ = spare-other is in
      omega (arith, is.here)

  -- Close: the working sector joins the closed ones, and the spare is left.
  pub after-close : IsRest views w → IsMidTurn (changed closed_view w views) (next (length views) w)
  after-close is =
      let n : ℕ = next (length views) w in
      record {
        led = led-after closed_view w views is.here (is.led w is.here) is.led;
        here = inside-still closed_view w views is.here n (next-lt (length views) w is.here);
        unfinished = ap is_unfinished (changed-other closed_view w views n (spare-other is)) ∙ is.spare;
        others = λ s h m. each_after closed_view w views is.here (λ (v : View). v.closed ≡ true) refl s (λ other. is.others s (inside closed_view w views is.here s h) other m);
      }

  -- Add at rest: the working sector has its done still.
  pub after-add : (e : Entry) → IsRest views w → IsRest (changed (added_view e) w views) w
  after-add e is =
      let f : View → View = added_view e in
      let n : ℕ = next (length views) w in
      let spare-view : view_at (changed f w views) n ≡ view_at views n = changed-other f w views n (spare-other is) in
      rest_at (changed f w views) w n
      (ap (λ (S : ℕ). next S w) (changed-length f w views))
      (led-after f w views is.here (is.led w is.here) is.led)
      (inside-still f w views is.here w is.here)
      (ap is_working (changed-here f w views is.here) ∙ added-working e (view_at views w) is.working)
      (ap is_unfinished spare-view ∙ is.spare)
      (ap (λ (v : View). v.entries) spare-view ∙ is.unused)
      (λ s h a b. ap (λ (v : View). v.closed) (changed-other f w views s a) ∙ is.others s (inside f w views is.here s h) a b)

  -- Reopen the successor: it is the spare, and unused.
  pub after-reopen : 2 ≤ length views → IsNotReopened views w → IsRest (changed reopened_view (next (length views) w) views) w
  after-reopen two is =
      let n : ℕ = next (length views) w in
      let below : n < length views = next-lt (length views) w is.here in
      let spare-view : view_at (changed reopened_view n views) n ≡ reopened_view (view_at views n) = changed-here reopened_view n views below in
      rest_at (changed reopened_view n views) w n
      (ap (λ (S : ℕ). next S w) (changed-length reopened_view n views))
      (led-after reopened_view n views below refl is.led)
      (inside-still reopened_view n views below w is.here)
      (ap is_working (changed-other reopened_view n views w (λ e. next-ne (length views) w two (sym e))) ∙ is.working)
      (ap is_unfinished spare-view ∙ reopened-unfinished (view_at views n))
      (ap (λ (v : View). v.entries) spare-view)
      (λ s h a b. ap (λ (v : View). v.closed) (changed-other reopened_view n views s b) ∙ is.others s (inside reopened_view n views below s h) a)

module _ (views : List View) (u : ℕ) where
  -- Copy, and reopen the unfinished sector: it is unfinished still.
  pub after-copy : (e : Entry) → IsMidTurn views u → is_done e.head ≡ false → IsMidTurn (changed (added_view e) u views) u
  after-copy e is other =
      mid-turn-after (added_view e) u views is.here is (is.led u is.here) (added-unfinished e (view_at views u) other is.unfinished)

  pub after-restart : IsMidTurn views u → IsMidTurn (changed reopened_view u views) u
  after-restart is = mid-turn-after reopened_view u views is.here is refl (reopened-unfinished (view_at views u))

  -- Done: the unfinished sector is the working one.
  pub after-done : (e : Entry) → IsMidTurn views u → is_done e.head ≡ true → IsNotReopened (changed (added_view e) u views) u
  after-done e is d =
      record {
        led = led-after (added_view e) u views is.here (is.led u is.here) is.led;
        here = inside-still (added_view e) u views is.here u is.here;
        working = ap is_working (changed-here (added_view e) u views is.here) ∙ done-working e (view_at views u) d is.unfinished;
        others = closed_after (added_view e) u views is.here is.others;
      }
