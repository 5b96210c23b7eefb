-- How the three shapes of the ring follow from one another, event by event.
use mathlib.Core.Path.{◌≡◌, refl, sym, ap, subst, ◌∙◌}
use mathlib.Core.Bool.{false}
use mathlib.Core.List.{List, [], ◌∷◌, ◌++◌}
use Prim.Native.Nat.{ℕ, ◌≤◌}
use lib.ListN.{length}
use Rattle.rules.specs.Look.{is_done}
use Rattle.rules.specs.Reading.{Entry, View}
use Rattle.rules.specs.Meaning.{view_at, next, all_but, IsRest, IsMidTurn}
use Rattle.rules.specs.Stores.{done_entry}
use Rattle.rules.proofs.Terms.{closed_view, added_view, reopened_view, changed}
use Rattle.rules.proofs.Ring.Order.{next-ne}
use Rattle.rules.proofs.Ring.History.{entries_each, all_but-each, closed-each, changed-length, changed-here, changed-other, changed-all_but}
use Rattle.rules.proofs.Ring.Events.{after-close, after-copy, after-done, after-reopen, after-restart}
use Rattle.rules.proofs.Crash.Standing.{ring-next, Rests, Copies, Finished}

module _ (S : ℕ) (two : 2 ≤ S) where
  -- a fact about the number of sectors, at S
  pub at_size : {n : ℕ} (P : ℕ → Type 0) → n ≡ S → P n → P S
  at_size P e p = subst P e p

  pub two-of : {n : ℕ} → n ≡ S → 2 ≤ n
  two-of e = subst (λ (n : ℕ). 2 ≤ n) (sym e) two

  pub sized-changed : (views : List View) (f : View → View) (s : ℕ) → length views ≡ S → length (changed f s views) ≡ S
  sized-changed views f s e = changed-length f s views ∙ e

  pub close-shift : {w : ℕ} {ring : List (List Entry)} {views : List View} → Rests S w ring views → Copies S (next S w) ring [] (changed closed_view w views)
  close-shift {w} {ring} {views} r =
      record {
        sized = sized-changed views closed_view w r.sized;
        is = at_size (λ (n : ℕ). IsMidTurn (changed closed_view w views) (next n w)) r.sized (after-close views w r.is);
        held = all_but-each (changed closed_view w views) views (closed-each w views) (next S w) ∙ r.held;
        made =
            ap (λ (v : View). v.entries) (changed-other closed_view w views (next S w) (next-ne S w two))
            ∙ at_size (λ (n : ℕ). (view_at views (next n w)).entries ≡ []) r.sized r.is.unused;
      }

  pub copy-shift : {u : ℕ} {ring : List (List Entry)} {copied : List Entry} {views : List View} (e : Entry) → is_done e.head ≡ false
      → Copies S u ring copied views → Copies S u ring (copied ++ (e ∷ [])) (changed (added_view e) u views)
  copy-shift {u} {ring} {copied} {views} e plain r =
      record {
        sized = sized-changed views (added_view e) u r.sized;
        is = after-copy views u e r.is plain;
        held = ap entries_each (changed-all_but (added_view e) u views) ∙ r.held;
        made = ap (λ (v : View). v.entries) (changed-here (added_view e) u views r.is.here) ∙ ap (λ (es : List Entry). es ++ (e ∷ [])) r.made;
      }

  pub done-shift : {u : ℕ} {ring : List (List Entry)} {copied : List Entry} {views : List View}
      → Copies S u ring copied views → Finished S u ring copied (changed (added_view done_entry) u views)
  unfolding done_entry is_done
  done-shift {u} {ring} {copied} {views} r =
      record {
        sized = sized-changed views (added_view done_entry) u r.sized;
        is = after-done views u done_entry r.is refl;
        held = ap entries_each (changed-all_but (added_view done_entry) u views) ∙ r.held;
        made = ap (λ (v : View). v.entries) (changed-here (added_view done_entry) u views r.is.here) ∙ ap (λ (es : List Entry). es ++ (done_entry ∷ [])) r.made;
      }

  pub reopen-shift : {u : ℕ} {o : List Entry} {others : List (List Entry)} {copied : List Entry} {views : List View}
      → Finished S u (o ∷ others) copied views → Rests S u (others ++ ((copied ++ (done_entry ∷ [])) ∷ [])) (changed reopened_view (next S u) views)
  reopen-shift {u} {o} {others} {copied} {views} r =
      record {
        sized = sized-changed views reopened_view (next S u) r.sized;
        is = at_size (λ (n : ℕ). IsRest (changed reopened_view (next n u) views) u) r.sized (after-reopen views u (two-of r.sized) r.is);
        held =
            ap entries_each (changed-all_but reopened_view (next S u) views)
            ∙ at_size (λ (n : ℕ). entries_each (all_but (next n u) views) ≡ others ++ ((view_at views u).entries ∷ [])) r.sized (ring-next views u (two-of r.sized) r.is.here r.held).1
            ∙ ap (λ (es : List Entry). others ++ (es ∷ [])) r.made;
      }

  -- a mount in mid-turn begins the copies anew
  pub restart-shift : {u : ℕ} {views : List View} → length views ≡ S → IsMidTurn views u → Copies S u (entries_each (all_but u views)) [] (changed reopened_view u views)
  restart-shift {u} {views} sized is =
      record {
        sized = sized-changed views reopened_view u sized;
        is = after-restart views u is;
        held = ap entries_each (changed-all_but reopened_view u views);
        made = ap (λ (v : View). v.entries) (changed-here reopened_view u views is.here);
      }
