-- What a write and a delete are due, by the sizes and the state of the image.
-- Assumes nothing.
use mathlib.Core.Path.{◌≡◌, ◌∙◌}
use mathlib.Core.List.{List}
use Prim.Native.Nat.{ℕ, ◌-◌, ◌^◌, ◌<◌, ◌≤◌}
use native.Mathlib.Omega.{arith}
use Rattle.std.specs.Prelude.{Some, Err}
use lib.ListN.{length}
use Rattle.rules.specs.Ground.{reserved_id, kept_from_values}
use Rattle.rules.specs.Look as look
use Rattle.rules.specs.Look.{need_of}
use Rattle.rules.specs.Meaning.{state_of}
use Rattle.rules.specs.Calls as rule
use Rattle.rules.specs.Calls.{refuse, write_on, delete_on}
use Rattle.rules.proofs.Format.Look.{need-blocks}
use Rattle.layout.specs.declared.Geometry.{Geometry}
use Rattle.layout.specs.Geometry.{blocks_of, sectors_of, sizes_in, sizes_of}
use Rattle.layout.specs.Options.{option_as}
use Rattle.image.specs.Answer.{views_in}
use Rattle.append.proofs.Appending.{blocks_in}
use Rattle.answer.specs.declared.Refusal.{Refusal}
use Rattle.answer.specs.Answer.{refusal_of}
use Rattle.at_rest.proofs.Changing.{writing, value_by_state, write-by-state, deleting, deletion_by_state, delete-by-state}
use Rattle.store.specs.State.{open_as}
use Rattle.store.proofs.Sizes.{at-legal, not-in-rest}

-- ---- a write

-- what does not fit two bytes fits no sector
pub longest : (g : Geometry) (id len : ℕ) → 2 ^ 16 ≤ len → blocks_of g - kept_from_values < need_of (look.value id len)
unfolding need_of
longest g id len long = omega (arith, g.sound.blocks_to, (need-blocks len).0 (omega arith))

module _ (size count : ℕ) (bytes : List ℕ) (id : ℕ) (value : List ℕ) where
  pub write-legal : (g : Geometry) → Some (sizes_in g) ≡ sizes_of size count (length bytes)
      → rule.write_due size count bytes id value ≡ write_on (blocks_of g) (sectors_of g) (blocks_in g bytes) id value
  unfolding rule.write_due
  write-legal g e = at-legal size count bytes refuse (λ B S im. write_on B S im id value) g e

pub write-unready : (g : Geometry) (bytes : List ℕ) (id : ℕ) (value : List ℕ) (other : id ≡ reserved_id → ⊥) (some_bytes : 1 ≤ length value)
    (fits : need_of (look.value id (length value)) ≤ blocks_of g - kept_from_values) {r : Refusal}
    → open_as (option_as (state_of (views_in g bytes))) ≡ Err r → writing g bytes id value ≡ refuse (refusal_of r)
write-unready g bytes id value other some_bytes fits e =
    write-by-state g bytes id value other some_bytes fits
    ∙ not-in-rest refuse (value_by_state g bytes id value other some_bytes fits) (state_of (views_in g bytes)) e

-- ---- a delete

module _ (size count : ℕ) (bytes : List ℕ) (id : ℕ) where
  pub delete-legal : (g : Geometry) → Some (sizes_in g) ≡ sizes_of size count (length bytes)
      → rule.delete_due size count bytes id ≡ delete_on (blocks_of g) (sectors_of g) (blocks_in g bytes) id
  unfolding rule.delete_due
  delete-legal g e = at-legal size count bytes refuse (λ B S im. delete_on B S im id) g e

pub delete-unready : (g : Geometry) (bytes : List ℕ) (id : ℕ) (other : id ≡ reserved_id → ⊥) {r : Refusal}
    → open_as (option_as (state_of (views_in g bytes))) ≡ Err r → deleting g bytes id ≡ refuse (refusal_of r)
delete-unready g bytes id other e =
    delete-by-state g bytes id other ∙ not-in-rest refuse (deletion_by_state g bytes id other) (state_of (views_in g bytes)) e
