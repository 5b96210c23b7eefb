-- A mount, cut anywhere and whole: at every cut the image stands and tells the same, and whole it is at rest.
use mathlib.Core.Path.{◌≡◌, refl, sym, ap, subst, ◌∙◌}
use mathlib.Core.List.{List, [], ◌∷◌}
use mathlib.Core.Option.{Option}
use Prim.Native.Nat.{ℕ, ◌<◌, ◌≤◌}
use lib.ListN.{length}
use Rattle.rules.specs.Notation.{concat}
use Rattle.rules.specs.Ground.{Image}
use Rattle.rules.specs.Reading.{Entry, View}
use Rattle.rules.specs.Meaning.{State, at_rest, not_reopened, mid_turn, views_of, view_at, next, all_but, counting, IsRest, Is, history, entries_in, lookup}
use Rattle.rules.specs.Stores.{reopen, finish_turn, moved, mount, apply}
use Rattle.rules.specs.Calls.{mount_turns}
use Rattle.rules.proofs.Terms.{IsImage, changed, reopened_view}
use Rattle.rules.proofs.Crash.Cuts.{Goes, goes-nothing, goes-atomic, goes_then, goes-weaken}
use Rattle.rules.proofs.Ring.Order.{ring, all_but_two, next-lt}
use Rattle.rules.proofs.Ring.History.{entries_each, entries_in-each, changed-all_but}
use Rattle.rules.proofs.Ring.Events.{after-reopen}
use Rattle.rules.proofs.Blocks.Reopen.{reopen-atomic}
use Rattle.rules.proofs.Crash.Standing.{turned, turned-matches, settled, Stands, Rests, Copies}
use Rattle.rules.proofs.Crash.Shifts.{at_size, two-of, sized-changed, restart-shift}
use Rattle.rules.proofs.Crash.Turning.{image-after, finish-goes}

-- At rest, and telling what T says.
pub record Settled (S : ℕ) (T : ℕ → Option Entry) (views : List View) : Type 0 where
  pub working : ℕ
  pub ring : List (List Entry)
  pub rests : Rests S working ring views
  pub matches : (id : ℕ) → lookup id (concat ring) ≡ T id

-- and with this sector working
pub record SettledAt (S : ℕ) (T : ℕ → Option Entry) (w : ℕ) (views : List View) : Type 0 where
  pub settled : Settled S T views
  pub here : settled.working ≡ w

-- the sector that works after a call of so many turns that began in a state
unfoldable pub works_after : (S turns : ℕ) → State → ℕ
works_after S turns (at_rest w) = moved S turns w
works_after S turns (not_reopened w) = w
works_after S turns (mid_turn u) = u

-- what is told by the sectors but one, by their entries
pub by-lists : (T : ℕ → Option Entry) (u : ℕ) (views : List View) → ((id : ℕ) → lookup id (entries_in (all_but u views)) ≡ T id) → (id : ℕ) → lookup id (concat (entries_each (all_but u views))) ≡ T id
by-lists T u views t id = ap (lookup id) (sym (entries_in-each (all_but u views))) ∙ t id

unfoldable pub rest-settled : (S : ℕ) → 2 ≤ S → (T : ℕ → Option Entry) (views : List View) → length views ≡ S → (w : ℕ) → IsRest views w → ((id : ℕ) → lookup id (history (at_rest w) views) ≡ T id) → Settled S T views
unfolding history counting
rest-settled S two T views sized w is matches =
    record {
      working = w;
      ring = entries_each (all_but (next S w) views);
      rests = record { sized = sized; is = is; held = refl };
      matches = by-lists T (next S w) views (at_size S two (λ (n : ℕ). (id : ℕ) → lookup id (entries_in (all_but (next n w) views)) ≡ T id) sized matches);
    }

module _ (B S : ℕ) (big : 8 ≤ B) (most : B ≤ 4096) (two : 2 ≤ S) (T : ℕ → Option Entry) where
  pub mount-goes : (im : Image) → IsImage B S im → (s : Stands S T (views_of B im))
      → Goes B S (mount B S s.state) im (Stands S T) (SettledAt S T (works_after S (mount_turns s.state) s.state))
  unfolding mount Is history counting settled moved mount_turns works_after rest-settled
  mount-goes im ok s = go s.state s.is s.matches s.matches_later
    where
      views : List View
      views = views_of B im

      sized : length views ≡ S
      sized = s.sized

      go : (state : State) → Is views state → ((id : ℕ) → lookup id (history state views) ≡ T id) → ((id : ℕ) → lookup id (settled state views) ≡ T id)
          → Goes B S (mount B S state) im (Stands S T) (SettledAt S T (works_after S (mount_turns state) state))
      go (at_rest w) is t later = goes-nothing B S im (record { settled = rest-settled S two T views sized w is t; here = refl })
      go (not_reopened w) is t later =
          let u : ℕ = next S w in
          goes-atomic B S im (reopen-atomic big ok (next-lt S w (at_size S two (λ (n : ℕ). w < n) sized is.here))) s
          (record {
            settled = record {
              working = w;
              ring = entries_each (all_but u views);
              rests = record {
                sized = sized-changed S two views reopened_view u sized;
                is = at_size S two (λ (n : ℕ). IsRest (changed reopened_view (next n w) views) w) sized (after-reopen views w (two-of S two sized) is);
                held = ap entries_each (changed-all_but reopened_view u views);
              };
              matches = by-lists T u views (at_size S two (λ (n : ℕ). (id : ℕ) → lookup id (entries_in (all_but (next n w) views)) ≡ T id) sized later);
            };
            here = refl;
          })
      go (mid_turn u) is t later = goes_then B S im (reopen B u) (finish_turn B S u) reopening finishing
        where
          here : u < S
          here = at_size S two (λ (n : ℕ). u < n) sized is.here

          reopening : Goes B S (reopen B u) im (Stands S T) (Copies S u (entries_each (all_but u views)) [])
          reopening = goes-atomic B S im (reopen-atomic big ok here) s (restart-shift S two sized is)

          finishing : Goes B S (finish_turn B S u) (apply (reopen B u im) im) (Stands S T) (SettledAt S T u)
          finishing =
              let rest : List View = all_but_two u views in
              let ahead : all_but u views ≡ view_at views (next (length views) u) ∷ rest = (ring u views is.here (two-of S two sized)).oldest in
              let o : List Entry = (view_at views (next (length views) u)).entries in
              let matches : (id : ℕ) → lookup id (concat (o ∷ entries_each rest)) ≡ T id =
              subst (λ (l : List View). (id : ℕ) → lookup id (concat (entries_each l)) ≡ T id) ahead (by-lists T u views t) in
              let copies : Copies S u (o ∷ entries_each rest) [] (views_of B (apply (reopen B u im) im)) =
              subst (λ (l : List View). Copies S u (entries_each l) [] (views_of B (apply (reopen B u im) im))) ahead reopening.whole in
              goes-weaken B S (apply (reopen B u im) im)
              (λ vs r. record { settled = record { working = u; ring = turned (o ∷ entries_each rest); rests = r; matches = turned-matches S T (o ∷ entries_each rest) matches }; here = refl })
              (finish-goes B S big most two T (apply (reopen B u im) im) matches (image-after B S big most two T im ok reopening) here copies)
