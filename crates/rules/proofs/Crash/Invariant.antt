-- The invariant of demand 3: what holds after a format, is kept by every call with any allowance, and makes the next mount
-- succeed. Layers above see `Invariant` alone.
use Rattle.std.specs.Prelude.{if◌then◌else◌}
use mathlib.Core.Path.{◌≡◌, refl, sym, ap, subst, subst₂, ◌∙◌}
use mathlib.Core.Bool.{Bool, true, false}
use mathlib.Core.List.{List}
use mathlib.Core.Logic.{⊎_elim}
use mathlib.Core.Option.{Option, none, some}
use Prim.Native.Nat.{ℕ, ◌/◌}
use lib.Dec.{eqb}
use lib.ListN.{length}
use borrow.Author.Tests.{eq-eqb, ne_eqb, eqb-true, eqb-false}
use Rattle.rules.specs.Notation.{when}
use Rattle.rules.specs.Ground.{block_size, legal_sizes, image_of}
use Rattle.rules.specs.Reading.{Entry}
use Rattle.rules.specs.Meaning.{is_named, is_value}
use Rattle.rules.specs.Stores.{value_entry, deletion_entry}
use Rattle.rules.specs.Calls.{Due, answer, answer_numbers, leaves}
use Rattle.rules.specs.Demands.{Call, mount, write, delete, Typed, writes, AreBytes, IsUser, Model, assign, model_after, due, budget, Run, step, views, Matches, matches_nothing, matches_value}
use Rattle.rules.proofs.Terms.{IsImage}
use Rattle.rules.proofs.Basics.Notation.{when_true, by-test}
use Rattle.rules.proofs.Crash.Standing.{Stands, rests-stand}
use Rattle.rules.proofs.Crash.Mounting.{SettledAt}
use Rattle.rules.proofs.Crash.Changing.{updated}
use Rattle.rules.proofs.Crash.Effects.{value-head}
use Rattle.rules.proofs.Crash.Leaving.{lookup-after, Left, call-left}
use Rattle.rules.proofs.Blocks.Value.{entry_value, entry-sound}

pub record Invariant (size count : ℕ) (image : List ℕ) (model : Model) : Type 0 where
  pub legal : legal_sizes size count (length image) ≡ true
  pub whole : IsImage (size / block_size) count (image_of (size / block_size) count image)
  pub current : ℕ → Option Entry
  pub stands : Stands count current (views size count image)
  pub matches : (id : ℕ) → IsUser id → Matches (current id) (model id)

-- what is told of an ID that an entry names, and of any other
pub updated-named : (e : Entry) (T : ℕ → Option Entry) (i : ℕ) → is_named i e.head ≡ true → updated e T i ≡ when (is_value e.head) e
updated-named e T i named = simp named

pub updated-other : (e : Entry) (T : ℕ → Option Entry) (i : ℕ) → is_named i e.head ≡ false → updated e T i ≡ T i
updated-other e T i other = simp other

-- the book's side of it
assigned : (model : Model) (id : ℕ) (entry : Option (List ℕ)) → assign model id entry id ≡ entry
unfolding assign
assigned model id entry = simp (eq-eqb id id refl)

assigned-other : (model : Model) (id : ℕ) (entry : Option (List ℕ)) (i : ℕ) → (i ≡ id → ⊥) → assign model id entry i ≡ model i
unfolding assign
assigned-other model id entry i other = simp (ne_eqb i id other)

module _ (T : ℕ → Option Entry) (model : Model) (matches : (id : ℕ) → IsUser id → Matches (T id) (model id)) where
  -- an entry of an ID changes what is told, and the book, of that ID alone
  assigned-matches : (e : Entry) (id : ℕ) (entry : Option (List ℕ)) → ((i : ℕ) → is_named i e.head ≡ eqb id i) → Matches (when (is_value e.head) e) entry
      → (i : ℕ) → IsUser i → Matches (updated e T i) (assign model id entry i)
  assigned-matches e id entry names new i user =
      by-test (eqb id i)
      (λ same.
      subst₂ Matches (sym (updated-named e T i (names i ∙ same)))
      (sym (assigned model id entry) ∙ ap (assign model id entry) (eqb-true id i same))
      new)
      (λ other.
      subst₂ Matches (sym (updated-other e T i (names i ∙ other)))
      (sym (assigned-other model id entry i (λ (e : i ≡ id). eqb-false id i other (sym e))))
      (matches i user))

pub value-named : (id : ℕ) (bytes : List ℕ) (i : ℕ) → is_named i (value_entry id bytes).head ≡ eqb id i
unfolding is_named value_entry
value-named id bytes i = refl

pub deletion-named : (id i : ℕ) → is_named i (deletion_entry id).head ≡ eqb id i
unfolding is_named deletion_entry
deletion-named id i = refl

pub value-matches : (id : ℕ) (bytes : List ℕ) → AreBytes bytes → Matches (when (is_value (value_entry id bytes).head) (value_entry id bytes)) (some bytes)
unfolding AreBytes
value-matches id bytes typed =
    subst₂ Matches (sym (ap (λ (b : Bool). when b (value_entry id bytes)) (value-head id bytes) ∙ when_true (value_entry id bytes)))
    (ap (λ (v : List ℕ). some v) (entry_value id bytes)) (matches_value (entry-sound id bytes typed))

pub deletion-matches : (id : ℕ) → Matches (when (is_value (deletion_entry id).head) (deletion_entry id)) none
unfolding is_value deletion_entry when
deletion-matches id = matches_nothing

-- the book after a call: changed on 0, alone on any other number
kept-done : (number : ℕ) (new model : Model) → number ≡ 0 → (if eqb number 0 then new else model) ≡ new
kept-done number new model done = simp (eq-eqb number 0 done)

kept-other : (number : ℕ) (new model : Model) → (number ≡ 0 → ⊥) → (if eqb number 0 then new else model) ≡ model
kept-other number new model other = simp (ne_eqb number 0 other)

model-changed : (call : Call) (number : ℕ) (T : ℕ → Option Entry) (model : Model) → Typed call → number ≡ 0 → ((id : ℕ) → IsUser id → Matches (T id) (model id))
    → (i : ℕ) → IsUser i → Matches (lookup-after call T i) (model_after call number model i)
unfolding lookup-after model_after
model-changed (mount a) number T model typed done matches i user = matches i user
model-changed (write id bytes a) number T model (writes named typed few) done matches i user =
    subst (λ (b : Model). Matches (updated (value_entry id bytes) T i) (b i)) (sym (kept-done number (assign model id (some bytes)) model done))
    (assigned-matches T model matches (value_entry id bytes) id (some bytes) (value-named id bytes) (value-matches id bytes typed) i user)
model-changed (delete id a) number T model typed done matches i user =
    subst (λ (b : Model). Matches (updated (deletion_entry id) T i) (b i)) (sym (kept-done number (assign model id none) model done))
    (assigned-matches T model matches (deletion_entry id) id none (deletion-named id) (deletion-matches id) i user)

model-alone : (call : Call) (number : ℕ) (model : Model) → (number ≡ 0 → ⊥) → model_after call number model ≡ model
unfolding model_after
model-alone (mount a) number model other = refl
model-alone (write id bytes a) number model other = kept-other number (assign model id (some bytes)) model other
model-alone (delete id a) number model other = kept-other number (assign model id none) model other

-- Every call keeps the invariant, with any allowance.
pub kept-by-call : (size count : ℕ) (state : Run) (call : Call) → Typed call → Invariant size count state.image state.model
    → Invariant size count (step size count state call).image (step size count state call).model
unfolding step
kept-by-call size count state call typed inv = ⊎_elim changed alone left.stood
  where
    T : ℕ → Option Entry
    T = inv.current

    what : Due
    what = due size count state.image call

    number : ℕ
    number = (answer_numbers (answer what (budget call))).number

    after : List ℕ
    after = leaves size what (budget call) state.image

    left : Left size count state.image call (budget call) inv.stands.state T
    left = call-left size count state.image inv.legal inv.whole call (budget call) typed inv.stands

    changed : {w : ℕ} → (number ≡ 0) × SettledAt count (lookup-after call T) w (views size count after) → Invariant size count after (model_after call number state.model)
    changed (done, q) =
        record {
          legal = left.legal;
          whole = left.whole;
          current = lookup-after call T;
          stands = rests-stand count (lookup-after call T) q.settled.matches q.settled.rests;
          matches = model-changed call number T state.model typed done inv.matches;
        }

    alone : (number ≡ 0 → ⊥) × Stands count T (views size count after) → Invariant size count after (model_after call number state.model)
    alone (other, s) =
        record {
          legal = left.legal;
          whole = left.whole;
          current = T;
          stands = s;
          matches = subst (λ (b : Model). (id : ℕ) → IsUser id → Matches (T id) (b id)) (sym (model-alone call number state.model other)) inv.matches;
        }
