-- What a write and a delete are due on an image of legal sizes: their checks in order, and what is left of the rule at rest.
-- Assumes nothing.
use mathlib.Core.Path.{◌≡◌, refl, ap, ◌∙◌}
use mathlib.Core.Bool.{true, false}
use mathlib.Core.List.{List, [], ◌∷◌}
use mathlib.Core.Option.{Option, none, some}
use Prim.Native.Nat.{ℕ, ◌-◌, ◌<◌, ◌≤◌}
use native.Mathlib.Omega.{arith}
use lib.ListN.{length}
use borrow.Author.Tests.{eq-eqb, ne_eqb, lt-ltb, le-ltb}
use Rattle.rules.specs.Notation.{is_empty}
use Rattle.rules.specs.Ground.{reserved_id, kept_from_values, kept_from_deletions}
use Rattle.rules.specs.Look as look
use Rattle.rules.specs.Look.{need_of}
use Rattle.rules.specs.Reading.{Entry}
use Rattle.rules.specs.Meaning.{State, at_rest, state_of, history, lookup}
use Rattle.rules.specs.Stores.{value_entry, deletion_entry}
use Rattle.rules.specs.Calls as rule
use Rattle.rules.specs.Calls.{Due, refuse, in_rest, change_on, write_on, delete_on}
use Rattle.layout.specs.declared.Geometry.{Geometry}
use Rattle.layout.specs.Geometry.{blocks_of, sectors_of}
use Rattle.image.specs.Answer.{views_in}
use Rattle.append.proofs.Appending.{blocks_in}

module _ {ℓ} {A : Type ℓ} (reason : rule.Refusal → A) (call : ℕ → A) where
  pub in_rest_lem : {o : Option State} {w : ℕ} → o ≡ some (at_rest w) → in_rest o reason call ≡ call w
  unfolding in_rest
  in_rest_lem e = rw e

-- ---- a write

empty-none : (value : List ℕ) → length value ≡ 0 → is_empty value ≡ true
unfolding is_empty
empty-none [] e = refl
empty-none (b ∷ bs) e = absurd (omega (arith, e))

filled : (value : List ℕ) → 1 ≤ length value → is_empty value ≡ false
unfolding is_empty
filled [] h = absurd (omega (arith, h))
filled (b ∷ bs) h = refl

module _ (g : Geometry) (bytes : List ℕ) (id : ℕ) (value : List ℕ) where
  abbrev pub writing : Due
  writing = write_on (blocks_of g) (sectors_of g) (blocks_in g bytes) id value

  pub write-reserved : id ≡ reserved_id → writing ≡ refuse rule.reserved
  unfolding write_on
  write-reserved same = rw (eq-eqb id reserved_id same)

  module _ (other : id ≡ reserved_id → ⊥) where
    pub write-empty : length value ≡ 0 → writing ≡ refuse rule.empty
    unfolding write_on
    write-empty zeroes = rw (ne_eqb id reserved_id other, empty-none value zeroes)

    module _ (some_bytes : 1 ≤ length value) where
      pub write-too-long : blocks_of g - kept_from_values < need_of (look.value id (length value)) → writing ≡ refuse rule.too_long
      unfolding write_on value_entry
      write-too-long long =
          rw (ne_eqb id reserved_id other, filled value some_bytes, lt-ltb (blocks_of g - kept_from_values) (need_of (look.value id (length value))) long)

      module _ (fits : need_of (look.value id (length value)) ≤ blocks_of g - kept_from_values) where
        abbrev pub value_by_state : ℕ → Due
        value_by_state w = change_on (blocks_of g) (sectors_of g) w (blocks_of g - kept_from_values) (value_entry id value) (blocks_in g bytes)

        pub write-by-state : writing ≡ rule.in_rest (state_of (views_in g bytes)) refuse value_by_state
        unfolding write_on value_entry
        write-by-state =
            rw (ne_eqb id reserved_id other, filled value some_bytes, le-ltb (blocks_of g - kept_from_values) (need_of (look.value id (length value))) fits)

        pub write-rest : {w : ℕ} → state_of (views_in g bytes) ≡ some (at_rest w) → writing ≡ value_by_state w
        write-rest e = write-by-state ∙ in_rest_lem refuse value_by_state e

-- ---- a delete

module _ (g : Geometry) (bytes : List ℕ) (id : ℕ) where
  abbrev pub deleting : Due
  deleting = delete_on (blocks_of g) (sectors_of g) (blocks_in g bytes) id

  pub delete-reserved : id ≡ reserved_id → deleting ≡ refuse rule.reserved
  unfolding delete_on
  delete-reserved same = rw (eq-eqb id reserved_id same)

  module _ (other : id ≡ reserved_id → ⊥) where
    abbrev pub removal : ℕ → Due
    removal w = change_on (blocks_of g) (sectors_of g) w (blocks_of g - kept_from_deletions) (deletion_entry id) (blocks_in g bytes)

    abbrev pub by_told : Option Entry → ℕ → Due
    by_told told w = elim told [ none ↦ refuse rule.absent | some e ↦ removal w ]

    abbrev pub deletion_by_state : ℕ → Due
    deletion_by_state w = by_told (lookup id (history (at_rest w) (views_in g bytes))) w

    pub delete-by-state : deleting ≡ rule.in_rest (state_of (views_in g bytes)) refuse deletion_by_state
    unfolding delete_on
    delete-by-state = rw (ne_eqb id reserved_id other)

    module _ {w : ℕ} (rest : state_of (views_in g bytes) ≡ some (at_rest w)) where
      pub delete-absent : lookup id (history (at_rest w) (views_in g bytes)) ≡ none → deleting ≡ refuse rule.absent
      delete-absent e = delete-by-state ∙ in_rest_lem refuse deletion_by_state rest ∙ ap (λ (told : Option Entry). by_told told w) e

      pub delete-rest : {e : Entry} → lookup id (history (at_rest w) (views_in g bytes)) ≡ some e → deleting ≡ removal w
      delete-rest e = delete-by-state ∙ in_rest_lem refuse deletion_by_state rest ∙ ap (λ (told : Option Entry). by_told told w) e
