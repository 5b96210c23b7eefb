-- A survey under way: what is known once the sectors below s are read, how it goes on, and what it comes to.
-- Assumes nothing.
use mathlib.Core.Path.{◌≡◌, sym, ◌∙◌}
use mathlib.Core.Bool.{Bool, true, false, false≢true}
use mathlib.Core.List.{List, [], ◌∷◌, map}
use mathlib.Core.Logic.{⊎_elim}
use mathlib.Core.Option.{none}
use Prim.Native.Nat.{ℕ, ◌+◌, ◌≤◌, ◌<◌}
use native.Mathlib.Omega.{arith}
use lib.ListN.{length, get_or, set, take}
use Rattle.std.specs.Prelude.{Some}
use lib.Seq.{take_all}
use Rattle.rules.specs.Notation.{all, places_from}
use Rattle.rules.specs.Ground.{max_sectors}
use Rattle.rules.specs.Reading.{View}
use Rattle.rules.specs.Meaning.{no_view, view_at, is_working, is_unfinished, state_by, state_of}
use Rattle.rules.proofs.Basics.Notation.{if-cases, refuted}
use Rattle.rules.proofs.Basics.Places.{all-each, each_all, one_place, here-or}
use Rattle.mask.specs.declared.Mask.{Mask}
use Rattle.mask.specs.Flags.{flags_of, sectors_in, Holds}
use Rattle.mask.proofs.Laws.{survey-added, survey-passed, tested-places}
use Rattle.sector.specs.declared.Class.{Class}
use Rattle.sector.specs.Answer.{class_as}
use Rattle.image.specs.declared.survey.Classes.{Classes}
use Rattle.image.specs.Answer.{marked, is_working_class, is_unfinished_class}
use Rattle.image.proofs.Sectors.{told-led, working-by, unfinished-by}

-- The sectors below s are read: their leads are right, and their classes are noted.
pub record Surveyed (views : List View) (classes : Classes) (s : ℕ) : Type 0 where
  pub led : (t : ℕ) → t < s → (view_at views t).led ≡ true
  pub working : Holds classes.working (map is_working (take s views))
  pub unfinished : Holds classes.unfinished (map is_unfinished (take s views))

-- a mask after one sector more
held-marked {ℓ} : {A : Type ℓ} (test : A → Bool) (d : A) (xs : List A) → length xs ≤ max_sectors → (s : ℕ) → s < length xs → {m r : Mask}
    → Holds m (map test (take s xs)) → flags_of r ≡ marked (test (get_or xs s d)) s (flags_of m) → Holds r (map test (take (s + 1) xs))
held-marked test d xs few s here {m} {r} held e =
    ⊎_elim
    (λ t. survey-added test d xs few s here held t.0 (sym t.1))
    (λ f.
    let passed : Holds m (map test (take (s + 1) xs)) = survey-passed test d xs few s here held f.0 in
    record { few = passed.few; exact = sym f.1 ∙ passed.exact })
    (if-cases (test (get_or xs s d)) (set (flags_of m) s true) (flags_of m) (sym e))

module _ (views : List View) where
  -- a sector with a right lead
  module _ (few : length views ≤ max_sectors) {classes next : Classes} {s : ℕ} (k : Surveyed views classes s) (here : s < length views) where
    pub surveyed-more : {class : Class} → class_as (view_at views s) ≡ Some class
        → flags_of next.working ≡ marked (is_working_class class) s (flags_of classes.working)
        → flags_of next.unfinished ≡ marked (is_unfinished_class class) s (flags_of classes.unfinished)
        → Surveyed views next (s + 1)
    unfolding view_at
    surveyed-more told working unfinished =
        let view : View = view_at views s in
        record {
          led = λ t h. here-or (λ (x : ℕ). x < s + 1 → (view_at views x).led ≡ true) s t (λ at. told-led view told) (λ other before. k.led t (omega arith)) h;
          working = held-marked is_working no_view views few s here k.working (rw (working-by view told) at working);
          unfinished = held-marked is_unfinished no_view views few s here k.unfinished (rw (unfinished-by view told) at unfinished);
        }

  -- all are read
  module _ {classes : Classes} {s : ℕ} (k : Surveyed views classes s) (last : length views ≤ s) where
    pub surveyed-working : sectors_in classes.working ≡ places_from 0 is_working views
    surveyed-working = tested-places is_working views (rw (take_all s views last) at k.working)

    pub surveyed-unfinished : sectors_in classes.unfinished ≡ places_from 0 is_unfinished views
    surveyed-unfinished = tested-places is_unfinished views (rw (take_all s views last) at k.unfinished)

    pub surveyed-one : (w : ℕ) → sectors_in classes.working ≡ w ∷ [] → w < length views
    surveyed-one w e = (one_place is_working no_view views w (sym surveyed-working ∙ e)).here

    pub surveyed-state : state_by views (sectors_in classes.working) (sectors_in classes.unfinished) ≡ state_of views
    unfolding state_of view_at
    surveyed-state =
        let led : all (λ (v : View). v.led) views ≡ true = each_all (λ (v : View). v.led) no_view views (λ t h. k.led t (omega arith)) in
        rw (surveyed-working, surveyed-unfinished, led)

  -- a sector without a right lead: no store
  module _ (s : ℕ) (here : s < length views) (wrong : (view_at views s).led ≡ false) where
    pub no_store_lem : state_of views ≡ none
    unfolding state_of view_at
    no_store_lem =
        let not-all : all (λ (v : View). v.led) views ≡ false =
        refuted (all (λ (v : View). v.led) views) (λ e. false≢true (sym wrong ∙ all-each (λ (v : View). v.led) no_view views e s here)) in
        rw not-all
