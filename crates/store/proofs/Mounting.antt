-- What a mount is due, by the state of the image.
-- Assumes nothing.
use mathlib.Core.Path.{◌≡◌, ap, ◌∙◌}
use mathlib.Core.List.{List}
use mathlib.Core.Option as rule-option
use Rattle.std.specs.Prelude.{Some, Ok, Err}
use Prim.Native.Nat.{ℕ}
use native.Mathlib.Omega.{arith}
use lib.ListN.{length}
use Rattle.rules.specs.Ground.{Image, image_of}
use Rattle.rules.specs.Meaning.{State, state_of}
use Rattle.rules.specs.Stores as stores
use Rattle.rules.specs.Calls as rule
use Rattle.rules.specs.Calls.{Due, refuse, make, in_state, mount_turns}
use Rattle.layout.specs.declared.Geometry.{Geometry}
use Rattle.layout.specs.Geometry.{blocks_of, sectors_of, sizes_in, sizes_of}
use Rattle.layout.specs.Options.{option_as}
use Rattle.image.specs.Answer.{views_in}
use Rattle.turn.specs.Turn.{mount_stores}
use Rattle.answer.specs.declared.Refusal.{Refusal}
use Rattle.answer.specs.declared.Refusal.TheVariants as refusal
use Rattle.answer.specs.Answer.{refusal_of}
use Rattle.store.specs.State.{begun_as}
use Rattle.store.proofs.Sizes.{at-legal}

abbrev mount_by : (B S : ℕ) → Image → State → Due
mount_by B S im state = make (stores.mount B S state im) (mount_turns state)

by-none : (o : rule-option.Option State) (call : State → Due) {r : Refusal} → begun_as (option_as o) ≡ Err r → in_state o refuse call ≡ refuse (refusal_of r)
unfolding begun_as in_state
by-none rule-option.none call {r} e = let same : refusal.NoStore ≡ r = cc in ap (λ (x : Refusal). refuse (refusal_of x)) same
by-none (rule-option.some state) call e = let z : ◌≡◌ {A = ℕ} 0 1 = cc in absurd (omega arith)

by-turns : (B S : ℕ) (im : Image) (o : rule-option.Option State) {t : ℕ} → begun_as (option_as o) ≡ Ok t
    → in_state o refuse (mount_by B S im) ≡ make (mount_stores B S o im) t
unfolding begun_as in_state
by-turns B S im rule-option.none {t} e = let z : ◌≡◌ {A = ℕ} 0 1 = cc in absurd (omega arith)
by-turns B S im (rule-option.some state) {t} e = let same : mount_turns state ≡ t = cc in ap (make (stores.mount B S state im)) same

module _ (size count : ℕ) (bytes : List ℕ) (g : Geometry) (legal : Some (sizes_in g) ≡ sizes_of size count (length bytes)) where
  mount-on : rule.mount_due size count bytes
      ≡ in_state (state_of (views_in g bytes)) refuse (mount_by (blocks_of g) (sectors_of g) (image_of (blocks_of g) (sectors_of g) bytes))
  unfolding rule.mount_due rule.mount_on
  mount-on = at-legal size count bytes refuse rule.mount_on g legal

  pub mount-none : {r : Refusal} → begun_as (option_as (state_of (views_in g bytes))) ≡ Err r → rule.mount_due size count bytes ≡ refuse (refusal_of r)
  mount-none e = mount-on ∙ by-none (state_of (views_in g bytes)) _ e

  pub mount-due : {t : ℕ} → begun_as (option_as (state_of (views_in g bytes))) ≡ Ok t
      → rule.mount_due size count bytes
      ≡ make (mount_stores (blocks_of g) (sectors_of g) (state_of (views_in g bytes)) (image_of (blocks_of g) (sectors_of g) bytes)) t
  mount-due e = mount-on ∙ by-turns (blocks_of g) (sectors_of g) (image_of (blocks_of g) (sectors_of g) bytes) (state_of (views_in g bytes)) e
