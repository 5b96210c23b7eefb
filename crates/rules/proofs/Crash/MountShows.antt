-- What a mount answers and leaves, of any image of legal sizes, reachable or not: 2 where there is no store, and on 0 an image
-- at rest, whose turns, working sector and values follow from the state that it began in.
use mathlib.Core.Path.{◌≡◌, refl, sym, ap, subst, ◌∙◌}
use mathlib.Core.Bool.{true}
use mathlib.Core.List.{List}
use mathlib.Core.Logic.{◌↔◌, ⊎_elim}
use mathlib.Core.Option.{Option, none, some, none-ne-some}
use Prim.Native.Nat.{ℕ, ◌/◌, ◌<◌, ◌≤◌}
use native.Mathlib.Omega.{arith}
use lib.Dec.{leb}
use lib.ListN.{length, take}
use lib.Seq.{take_all}
use borrow.Author.Tests.{leb-true, leb-false}
use Rattle.rules.specs.Ground.{Image, block_size, legal_sizes, image_of}
use Rattle.rules.specs.Reading.{Entry, View}
use Rattle.rules.specs.Meaning.{State, at_rest, not_reopened, mid_turn, views_of, next, Is, IsRest, state_of, history, lookup}
use Rattle.rules.specs.Stores as stores
use Rattle.rules.specs.Stores.{Store, apply, moved, reopen}
use Rattle.rules.specs.Calls.{Due, refuse, make, no_store, Answer, Numbers, answer_numbers, refusal_number, answer, made, in_state, mount_turns, mount_on, mount_due, leaves}
use Rattle.rules.specs.Demands.{mount, mounts, AreBytes, due, views, IsMounted, MountedFrom, MountShows}
use Rattle.rules.proofs.Terms.{IsImage, IsAtomic, changed, reopened_view}
use Rattle.rules.proofs.Basics.Notation.{by-test}
use Rattle.rules.proofs.Basics.Parts.{each_take}
use Rattle.rules.proofs.Format.Ground.{Bounds, legal-bounds}
use Rattle.rules.proofs.Blocks.OnBytes.{HasBlocks, call-on, leaves-on, inside-lie, image-of-bytes}
use Rattle.rules.proofs.Blocks.OnImage.{views-length}
use Rattle.rules.proofs.Blocks.Reopen.{reopen-atomic}
use Rattle.rules.proofs.Ring.Order.{next-lt}
use Rattle.rules.proofs.Ring.Events.{after-reopen}
use Rattle.rules.proofs.Ring.History.{history-spare}
use Rattle.rules.proofs.Ring.States.{is_state, state-is}
use Rattle.rules.proofs.Due.Calls.{answer-whole, answer-cut}
use Rattle.rules.proofs.Crash.Demand3.{mount-is}
use Rattle.rules.proofs.Crash.Landed.{Lands, landed-enough, call-legal}
use Rattle.rules.proofs.Crash.Leaving.{Left, lookup-after, call-left}
use Rattle.rules.proofs.Crash.Mounting.{SettledAt, works_after}
use Rattle.rules.proofs.Crash.Reads.{settled-state, settled-lookup}
use Rattle.rules.proofs.Crash.ReadBack.{none_allowed}
use Rattle.rules.proofs.Crash.Standing.{Stands, settled}

-- what is made answers 0 or 11
not-refused : (stores : List Store) (turns a : ℕ) → (answer_numbers (answer (make stores turns) a)).number ≡ 2 → ⊥
unfolding answer_numbers
not-refused stores turns a e =
    by-test (leb (length stores) a)
    (λ enough. let done : ◌≡◌ {A = ℕ} 0 2 = sym (ap (λ (x : Answer). (answer_numbers x).number) (answer-whole stores turns a (leb-true (length stores) a enough))) ∙ e in omega arith)
    (λ short. let cut : ◌≡◌ {A = ℕ} 11 2 = sym (ap (λ (x : Answer). (answer_numbers x).number) (answer-cut stores turns a (leb-false (length stores) a short))) ∙ e in omega arith)

module _ (size count : ℕ) (image : List ℕ) (legal : legal_sizes size count (length image) ≡ true) where
  abbrev B : ℕ
  B = size / block_size

  abbrev im : Image
  im = image_of B count image

  abbrev vs : List View
  vs = views size count image

  cut : HasBlocks size count image im
  cut = record { legal = legal; blocks = refl }

  bounds : Bounds size count (length image)
  bounds = legal-bounds size count (length image) legal

  mount-refused : state_of vs ≡ none → mount_due size count image ≡ refuse no_store
  unfolding mount_due mount_on in_state views
  mount-refused is = call-on size count cut refuse (λ B S i. mount_on B S i) ∙ simp is

  mount-made : (state : State) → state_of vs ≡ some state → mount_due size count image ≡ make (stores.mount B count state im) (mount_turns state)
  unfolding views
  mount-made state is = mount-is size count image cut state is

  by_state : (found : Option State) → state_of vs ≡ found → (a : ℕ) → ((answer_numbers (answer (mount_due size count image) a)).number ≡ 2) ↔ (found ≡ none)
  unfolding answer answer_numbers refusal_number
  by_state none is a = ((λ e. refl), (λ e. ap (λ (d : Due). (answer_numbers (answer d a)).number) (mount-refused is)))
  by_state (some state) is a = (
    (λ e. absurd (not-refused (stores.mount B count state im) (mount_turns state) a (ap (λ (d : Due). (answer_numbers (answer d a)).number) (sym (mount-made state is)) ∙ e))),
    (λ e. absurd (none-ne-some state (sym e))),
  )

  -- 2 exactly where there is no store
  pub no_store_lem : (a : ℕ) → ((answer_numbers (answer (mount_due size count image) a)).number ≡ 2) ↔ (state_of vs ≡ none)
  no_store_lem a = by_state (state_of vs) refl a

  module _ (typed : AreBytes image) (a : ℕ) (lands : Lands (mount_due size count image) a) where
    abbrev after : List ℕ
    after = leaves size (mount_due size count image) a image

    abbrev told : Numbers
    told = answer_numbers (answer (mount_due size count image) a)

    whole : IsImage B count im
    unfolding AreBytes
    whole = image-of-bytes B count image typed bounds.exact

    sized : length vs ≡ count
    unfolding views
    sized = views-length B im ∙ whole.sized

    -- the turns told are those of the state
    turns-told : (state : State) → state_of vs ≡ some state → told.turns ≡ mount_turns state
    unfolding answer_numbers
    turns-told state is =
        let what : List Store = stores.mount B count state im in
        let makes : mount_due size count image ≡ make what (mount_turns state) = mount-made state is in
        ap (λ (d : Due). (answer_numbers (answer d a)).turns) makes
        ∙ ap (λ (x : Answer). (answer_numbers x).turns) (answer-whole what (mount_turns state) a (landed-enough a what (mount_turns state) (subst (λ (d : Due). Lands d a) makes lands)))

    -- where a finished mount tells what was told before it
    standing : (state : State) → state_of vs ≡ some state → settled state vs ≡ history state vs
        → IsMounted size count told after (mount_turns state) (works_after count (mount_turns state) state) (history state vs)
    unfolding due lookup-after views
    standing state is same =
        let T : ℕ → Option Entry = λ id. lookup id (history state vs) in
        let stands : Stands count T vs = record { sized = sized; state = state; is = state-is vs state is; matches = λ id. refl; matches_later = λ id. ap (lookup id) same } in
        let left : Left size count image (mount 0) a state T = call-left size count image legal whole (mount 0) a (mounts none_allowed) stands in
        let settles : SettledAt count T (works_after count told.turns state) (views size count after) = ⊎_elim (λ t. t.1) (λ t. absurd (t.0 lands)) left.stood in
        let works : settles.settled.working ≡ works_after count (mount_turns state) state = settles.here ∙ ap (λ (n : ℕ). works_after count n state) (turns-told state is) in
        record {
          turns = turns-told state is;
          rests = settled-state size count after left.legal left.whole settles.settled ∙ ap (λ (w : ℕ). some (at_rest w)) works;
          keeps = λ id. subst (λ (w : ℕ). lookup id (history (at_rest w) (views size count after)) ≡ T id) works (settled-lookup size count after left.legal left.whole settles.settled id);
        }

    -- Done, not reopened: one reopening, after which the successor is the spare.
    reopening : (w : ℕ) → state_of vs ≡ some (not_reopened w) → IsMounted size count told after 0 w (history (at_rest w) vs)
    unfolding Is stores.mount mount_turns views made
    reopening w is =
        let not-reopened = state-is vs (not_reopened w) is in
        let here : next count w < count = next-lt count w (subst (λ (n : ℕ). w < n) sized not-reopened.here) in
        let atomic : IsAtomic B count (reopen B (next count w)) im (changed reopened_view (next count w) vs) = reopen-atomic bounds.blocks_from whole here in
        let what : List Store = reopen B (next count w) im in
        let makes : mount_due size count image ≡ make what 0 = mount-made (not_reopened w) is in
        let all : take a what ≡ what = take_all a what (landed-enough a what 0 (subst (λ (d : Due). Lands d a) makes lands)) in
        let left : HasBlocks size count (leaves size (make what 0) a image) (apply (take a what) im) = leaves-on size count cut (make what 0) a (inside-lie (each_take a atomic.inside)) in
        let shows : views size count after ≡ changed reopened_view (next (length vs) w) vs =
        ap (λ (d : Due). views size count (leaves size d a image)) makes ∙ ap (views_of B) (left.blocks ∙ ap (λ (ss : List Store). apply ss im) all) ∙ atomic.whole
        ∙ ap (λ (n : ℕ). changed reopened_view (next n w) vs) (sym sized) in
        let rests : IsRest (changed reopened_view (next (length vs) w) vs) w = after-reopen vs w (subst (λ (n : ℕ). 2 ≤ n) (sym sized) bounds.sectors_from) not-reopened in
        record {
          turns = turns-told (not_reopened w) is;
          rests = is_state (views size count after) (at_rest w) (subst (λ (v : List View). IsRest v w) (sym shows) rests);
          keeps = λ id. ap (λ (v : List View). lookup id (history (at_rest w) v)) shows ∙ ap (lookup id) (history-spare reopened_view w vs);
        }

    from : (state : State) → state_of vs ≡ some state → MountedFrom size count state image told after
    unfolding MountedFrom settled mount_turns works_after moved
    from (at_rest w) is = standing (at_rest w) is refl
    from (not_reopened w) is = reopening w is
    from (mid_turn u) is = standing (mid_turn u) is refl

pub mount-shows : MountShows
unfolding MountShows due
mount-shows size count image a state typed is lands = from size count image (call-legal size count image a (mount a) lands) typed a lands state is
