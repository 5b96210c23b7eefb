-- Demand 3: after any list of mounts, writes and deletes, each cut anywhere, the image tells what the book says.
use mathlib.Core.Path.{◌≡◌, refl, sym, ap, subst, ◌∙◌}
use mathlib.Core.Bool.{true}
use mathlib.Core.List.{List, [], ◌∷◌}
use mathlib.Core.Option.{Option, none, some}
use Prim.Native.Nat.{ℕ, ◌/◌, ◌≤◌}
use native.Mathlib.Omega.{arith}
use lib.ListN.{length, take}
use lib.Seq.{take_all}
use Rattle.rules.specs.Notation.{Each, each}
use Rattle.rules.specs.Ground.{Image, block_size, legal_sizes, image_of}
use Rattle.rules.specs.Reading.{Entry}
use Rattle.rules.specs.Meaning.{State, at_rest, not_reopened, mid_turn, views_of, state_of}
use Rattle.rules.specs.Stores.{Store, Plan, apply, mount, format}
use Rattle.rules.specs.Calls.{Due, refuse, make, answer, answer_numbers, made, format_on, format_due, mount_turns, mount_on, mount_due, in_state, leaves}
use Rattle.rules.specs.Demands.{Call, Typed, AreBytes, empty_model, Run, step, run, views, Matches, matches_nothing, AtRest, Succeeds, Holds, Demand3}
use Rattle.rules.proofs.Terms.{IsImage, IsInside}
use Rattle.rules.proofs.Basics.Parts.{each_take}
use Rattle.rules.proofs.Format.Ground.{Bounds, legal-bounds}
use Rattle.rules.proofs.Blocks.OnImage.{apply-image}
use Rattle.rules.proofs.Ring.States.{is_state}
use Rattle.rules.proofs.Due.Calls.{mount-coverable}
use Rattle.rules.proofs.Blocks.OnBytes.{HasBlocks, call-on, leaves-on, inside-lie, image-of-bytes}
use Rattle.rules.proofs.Crash.Cuts.{Goes}
use Rattle.rules.proofs.Crash.Standing.{Stands, rests-stand}
use Rattle.rules.proofs.Crash.Mounting.{Settled, SettledAt, works_after, mount-goes}
use Rattle.rules.proofs.Blocks.Formatted.{format-inside}
use Rattle.rules.proofs.Crash.Fresh.{format-stands}
use Rattle.rules.proofs.Crash.Landed.{Lands, landed-enough, format-legal}
use Rattle.rules.proofs.Crash.Invariant.{Invariant, kept-by-call}
use Rattle.rules.proofs.Crash.Resting.{succeeds-of, rest-holds}

-- what a format is due
format-on : (size count : ℕ) (bytes : List ℕ) → legal_sizes size count (length bytes) ≡ true → format_due size count bytes ≡ make (format (size / block_size) count) 0
unfolding format_due format_on
format-on size count bytes legal = call-on size count (record { legal = legal; blocks = refl }) refuse (λ B S i. format_on B S i)

-- A format that gave 0 leaves the invariant, with an empty book.
pub kept-by-format : (size count : ℕ) (bytes : List ℕ) (a : ℕ) → AreBytes bytes → (answer_numbers (answer (format_due size count bytes) a)).number ≡ 0
    → Invariant size count (leaves size (format_due size count bytes) a bytes) empty_model
unfolding AreBytes made views empty_model
kept-by-format size count bytes a ok lands =
    subst (λ (d : Due). Invariant size count (leaves size d a bytes) empty_model) (sym is)
    (record {
      legal = left.legal;
      whole = subst (IsImage B count) (sym left.blocks) (apply-image inside ok-image);
      current = λ id. none;
      stands = subst (λ (i : Image). Stands count (λ id. none) (views_of B i)) (sym (left.blocks ∙ ap (λ (ss : List Store). apply ss im) all)) fresh;
      matches = λ id user. matches_nothing;
    })
  where
    B : ℕ
    B = size / block_size

    im : Image
    im = image_of B count bytes

    legal : legal_sizes size count (length bytes) ≡ true
    legal = format-legal size count bytes a lands

    is : format_due size count bytes ≡ make (format B count) 0
    is = format-on size count bytes legal

    bounds : Bounds size count (length bytes)
    bounds = legal-bounds size count (length bytes) legal

    all : take a (format B count) ≡ format B count
    all = take_all a (format B count) (landed-enough a (format B count) 0 (subst (λ (d : Due). Lands d a) is lands))

    ok-image : IsImage B count im
    ok-image = image-of-bytes B count bytes ok bounds.exact

    inside : Each (IsInside B count) (made (make (format B count) 0) a)
    inside = each_take a (format-inside B count (omega (arith, bounds.blocks_from)) (omega (arith, bounds.sectors_from)))

    left : HasBlocks size count (leaves size (make (format B count) 0) a bytes) (apply (made (make (format B count) 0) a) im)
    left = leaves-on size count (record { legal = legal; blocks = refl }) (make (format B count) 0) a (inside-lie inside)

    fresh : Stands count (λ id. none) (views_of B (apply (format B count) im))
    fresh = format-stands B count bytes bounds.blocks_from bounds.sectors_from

-- and so does every list of calls
pub kept-by-run : (size count : ℕ) (list : List Call) (state : Run) → Each Typed list → Invariant size count state.image state.model
    → Invariant size count (run size count state list).image (run size count state list).model
unfolding run
kept-by-run size count [] state typed inv = inv
kept-by-run size count (call ∷ rest) state (each t typed) inv = kept-by-run size count rest (step size count state call) typed (kept-by-call size count state call t inv)

few-turns : (state : State) → mount_turns state ≤ 1
unfolding mount_turns
few-turns (at_rest w) = omega arith
few-turns (not_reopened w) = omega arith
few-turns (mid_turn u) = omega arith

pub mount-is : (size count : ℕ) (image : List ℕ) {im : Image} → HasBlocks size count image im → (state : State) → state_of (views_of (size / block_size) im) ≡ some state
    → mount_due size count image ≡ make (mount (size / block_size) count state im) (mount_turns state)
unfolding mount_due mount_on in_state
mount-is size count image {im} cut state found =
    call-on size count cut refuse (λ B S i. mount_on B S i) ∙ simp found

-- What the invariant promises.
pub invariant-holds : (size count : ℕ) (state : Run) → Invariant size count state.image state.model → Holds size count state
unfolding views made succeeds-of
invariant-holds size count state inv =
    record {
      store = record { state = s.state; is = found; matches = λ id user. subst (λ (t : Option Entry). Matches t (state.model id)) (sym (s.matches id)) (inv.matches id user) };
      mount = record { succeeds = succeeds; rests = rests };
    }
  where
    B : ℕ
    B = size / block_size

    image : List ℕ
    image = state.image

    im : Image
    im = image_of B count image

    s : Stands count inv.current (views_of B im)
    s = inv.stands

    bounds : Bounds size count (length image)
    bounds = legal-bounds size count (length image) inv.legal

    cut : HasBlocks size count image im
    cut = record { legal = inv.legal; blocks = refl }

    found : state_of (views_of B im) ≡ some s.state
    found = is_state (views_of B im) s.state s.is

    plan : Plan
    plan = mount B count s.state

    goes : Goes B count plan im (Stands count inv.current) (SettledAt count inv.current (works_after count (mount_turns s.state) s.state))
    goes = mount-goes B count bounds.blocks_from bounds.blocks_to bounds.sectors_from inv.current im inv.whole s

    is : mount_due size count image ≡ make (plan im) (mount_turns s.state)
    is = mount-is size count image cut s.state found

    succeeds : Succeeds (mount_due size count image) 1
    succeeds = succeeds-of (plan im) (mount_turns s.state) 1 is (few-turns s.state) (mount-coverable size count image)

    rests : (a : ℕ) → succeeds.stores ≤ a → AtRest size count (leaves size (mount_due size count image) a image) state.model
    rests a enough =
        subst (λ (d : Due). AtRest size count (leaves size d a image) state.model) (sym is)
        (rest-holds size count (leaves size what a image) state.model left-holds left-rests)
      where
        what : Due
        what = make (plan im) (mount_turns s.state)

        inside : Each (IsInside B count) (made what a)
        inside = each_take a goes.inside

        left : HasBlocks size count (leaves size what a image) (apply (made what a) im)
        left = leaves-on size count cut what a (inside-lie inside)

        same : image_of B count (leaves size what a image) ≡ apply (plan im) im
        same = left.blocks ∙ ap (λ (ss : List Store). apply ss im) (take_all a (plan im) enough)

        left-rests : Settled count inv.current (views_of B (image_of B count (leaves size what a image)))
        left-rests = subst (λ (i : Image). Settled count inv.current (views_of B i)) (sym same) goes.whole.settled

        left-holds : Invariant size count (leaves size what a image) state.model
        left-holds =
            record {
              legal = left.legal;
              whole = subst (IsImage B count) (sym left.blocks) (apply-image inside inv.whole);
              current = inv.current;
              stands = rests-stand count inv.current left-rests.matches left-rests.rests;
              matches = inv.matches;
            }

pub demand3 : Demand3
unfolding Demand3
demand3 size count bytes a list ok typed zero' = invariant-holds size count _ (kept-by-run size count list _ typed (kept-by-format size count bytes a ok zero'))
