-- The checks that calls share: the sizes, and the state of the image.
-- Assumes nothing.
use mathlib.Core.Path.{◌≡◌, sym, ap, ◌∙◌}
use mathlib.Core.List.{List}
use mathlib.Core.Option as rule-option
use Prim.Native.Nat.{ℕ}
use native.Mathlib.Omega.{arith}
use lib.ListN.{length}
use Rattle.std.specs.Prelude.{Option, option_map, Some, None, Result, Ok, Err, MatchResult}
use Rattle.std.specs.Option.{ok_or}
use Rattle.std.specs.Result.{IsErrAnd}
use Rattle.rules.specs.Ground.{Image, image_of, reserved_id}
use Rattle.rules.specs.Calls as rule
use Rattle.rules.specs.Calls.{Due, refuse, at_sizes, in_rest}
use Rattle.rules.specs.Meaning.{State, at_rest, not_reopened, mid_turn, state_of}
use Rattle.layout.specs.declared.Geometry.{Geometry}
use Rattle.layout.specs.Geometry.{blocks_of, sectors_of, sizes_in, sizes_of, Backs}
use Rattle.layout.specs.declared.Sector.{Sector}
use Rattle.layout.specs.Numbers.{sector_no, sector_at}
use Rattle.layout.specs.Options.{option_as}
use Rattle.layout.proofs.Laws.{from-sizes, not-sizes, legal-backs}
use Rattle.entry.specs.declared.Id.{Id}
use Rattle.entry.specs.Answer.{id_no}
use Rattle.image.specs.declared.Status.{Status}
use Rattle.image.specs.Answer.{views_in, status_of, status_as}
use Rattle.image.proofs.Laws.{survey-state}
use Rattle.answer.specs.declared.Refusal.{Refusal}
use Rattle.answer.specs.declared.Outcome.{Outcome}
use Rattle.answer.specs.declared.Refusal.TheVariants as refusal
use Rattle.answer.specs.Answer.{refusal_of, Leaves}
use Rattle.answer.proofs.Leaving.{exit-none, leaves-exit}
use Rattle.store.specs.State.{open_as}

-- ---- the sizes

module _ {ℓ} {A : Type ℓ} (size count : ℕ) (bytes : List ℕ) (reason : rule.Refusal → A) (call : (B S : ℕ) → Image → A) where
  pub at-illegal : None ≡ sizes_of size count (length bytes) → at_sizes size count bytes reason call ≡ reason rule.geometry
  unfolding at_sizes
  at-illegal e = rw (not-sizes size count (length bytes) e)

  pub at-legal : (g : Geometry) → Some (sizes_in g) ≡ sizes_of size count (length bytes)
      → at_sizes size count bytes reason call ≡ call (blocks_of g) (sectors_of g) (image_of (blocks_of g) (sectors_of g) bytes)
  unfolding at_sizes
  at-legal g e =
      let from = from-sizes size count (length bytes) g e in
      simp (from.legal, from.blocks, from.sectors)

-- what `Geometry::new` told of the sizes
module _ (size count len : ℕ) {made : Option Geometry} (told : option_map sizes_in made ≡ sizes_of size count len) where
  pub legal : {g : Geometry} → made ≡ Some g → Some (sizes_in g) ≡ sizes_of size count len
  legal is = ap (option_map sizes_in) (sym is) ∙ told

  pub illegal : made ≡ None → None ≡ sizes_of size count len
  illegal is = ap (option_map sizes_in) (sym is) ∙ told

  pub backs : {g : Geometry} → made ≡ Some g → (bytes : List ℕ) → length bytes ≡ len → Backs g bytes
  backs {g} is = legal-backs size count len g (legal is)

-- what a call that stores leaves where they are not legal
pub leaves-illegal : (size count a : ℕ) (bytes : List ℕ) (call : (B S : ℕ) → Image → Due) {made : Option Geometry} {e : Refusal} (r : Result Outcome Refusal)
    → option_map sizes_in made ≡ sizes_of size count (length bytes) → made ≡ None
    → ◌≡◌ {A = Result Geometry Refusal} (Err e) (ok_or made refusal.Geometry) → IsErrAnd r (λ d. d ≡ e)
    → Leaves size (at_sizes size count bytes refuse call) a bytes bytes r
leaves-illegal size count a bytes call r new none told exit =
    leaves-exit size a bytes (exit-none r none told exit) (at-illegal size count bytes refuse call (illegal size count (length bytes) new none))

-- ---- the ID

pub user-other : (user : Id) {id : ℕ} → id_no user ≡ id → id ≡ reserved_id → ⊥
user-other user same reserved = user.legal (same ∙ reserved)

-- an ID that was refused is the reserved one
pub user-reserved : {id : ℕ} (r : Result Id Refusal) {e : Refusal}
    → MatchResult r (λ user. id_no user ≡ id) (λ why. (id ≡ reserved_id) × (why ≡ refusal.Reserved)) → r ≡ Err e
    → (id ≡ reserved_id) × (e ≡ refusal.Reserved)
user-reserved (Ok user) told is = absurd cc
user-reserved (Err why) {e} told is = let same : why ≡ e = cc in (told.0, sym same ∙ told.1)

-- ---- the state

pub open-working : (o : rule-option.Option State) {w : Sector} → open_as (option_as o) ≡ Ok w → o ≡ rule-option.some (at_rest (sector_no w))
open-working rule-option.none {w} e = let z : ◌≡◌ {A = ℕ} 0 1 = cc in absurd (omega arith)
open-working (rule-option.some (at_rest s)) {w} e = let same : sector_at s ≡ w = cc in ap (λ (x : Sector). rule-option.some (at_rest (sector_no x))) same
open-working (rule-option.some (not_reopened s)) {w} e = let z : ◌≡◌ {A = ℕ} 0 1 = cc in absurd (omega arith)
open-working (rule-option.some (mid_turn s)) {w} e = let z : ◌≡◌ {A = ℕ} 0 1 = cc in absurd (omega arith)

-- by what the survey told, and what that opened
module _ (g : Geometry) (bytes : List ℕ) {status : Option Status} {r : Result Sector Refusal}
    (told : status ≡ status_as (state_of (views_in g bytes))) (opened : r ≡ open_as (option_map status_of status)) where
  pub rest : {w : Sector} → r ≡ Ok w → state_of (views_in g bytes) ≡ rule-option.some (at_rest (sector_no w))
  rest is = open-working _ (ap open_as (survey-state g bytes told) ∙ sym opened ∙ is)

  pub unready : {e : Refusal} → r ≡ Err e → open_as (option_as (state_of (views_in g bytes))) ≡ Err e
  unready is = ap open_as (survey-state g bytes told) ∙ sym opened ∙ is

module _ {ℓ} {A : Type ℓ} (reason : rule.Refusal → A) (call : ℕ → A) where
  pub not-in-rest : (o : rule-option.Option State) {r : Refusal} → open_as (option_as o) ≡ Err r → in_rest o reason call ≡ reason (refusal_of r)
  unfolding in_rest
  not-in-rest rule-option.none {r} e = let same : refusal.NoStore ≡ r = cc in ap (λ (x : Refusal). reason (refusal_of x)) same
  not-in-rest (rule-option.some (at_rest s)) {r} e = let z : ◌≡◌ {A = ℕ} 0 1 = cc in absurd (omega arith)
  not-in-rest (rule-option.some (not_reopened s)) {r} e = let same : refusal.Unfinished ≡ r = cc in ap (λ (x : Refusal). reason (refusal_of x)) same
  not-in-rest (rule-option.some (mid_turn s)) {r} e = let same : refusal.Unfinished ≡ r = cc in ap (λ (x : Refusal). reason (refusal_of x)) same
