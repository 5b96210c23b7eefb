-- What a call gives on an image at rest that keeps the invariant: the second and third point of demand 3.
use mathlib.Core.Path.{◌≡◌, refl, sym, ap, subst, ◌∙◌}
use mathlib.Core.Bool.{false}
use mathlib.Core.List.{List, [], ◌∷◌, map}
use mathlib.Core.Logic.{◌↔◌}
use mathlib.Core.Option.{Option, none, some, none-ne-some}
use Prim.Native.Nat.{ℕ, ◌+◌, ◌-◌, ◌/◌, ◌<◌, ◌≤◌}
use native.Mathlib.Nat.{not-suc-le-zero}
use native.Mathlib.Omega.{arith}
use lib.Dec.{leb}
use lib.ListN.{length, get_or}
use borrow.Author.Tests.{ne_eqb, le-ltb, leb-true, leb-false}
use Rattle.rules.specs.Notation.{is_empty}
use Rattle.rules.specs.Ground.{Image, block_size, image_of, reserved_id, kept_from_values, kept_from_deletions}
use Rattle.rules.specs.Look.{deletion, value, need_of}
use Rattle.rules.specs.Reading.{Entry, View}
use Rattle.rules.specs.Meaning.{at_rest, views_of, view_at, next, all_but, counting, state_of, history, entries_in, lookup, live_among, live_each, needs_of, live_in}
use Rattle.rules.specs.Stores.{Store, least_turns, change, value_entry, deletion_entry}
use Rattle.rules.specs.Calls.{no_room, absent, Due, refuse, make, answer, answer_numbers, Numbers, refusal_number, length_told, in_rest, change_on, write_on, delete_on, write_due, delete_due}
use Rattle.rules.specs.Demands.{IsUser, Model, views, Matches, matches_nothing, matches_value, gives, Succeeds, IsWritable, IsFull, AtRest}
use Rattle.rules.proofs.Basics.Notation.{by-test}
use Rattle.rules.proofs.Format.Ground.{Bounds, legal-bounds}
use Rattle.rules.proofs.Blocks.OnImage.{counted-view}
use Rattle.rules.proofs.Ring.Order.{ring, all_but_two, next-lt, length-all_but}
use Rattle.rules.proofs.Ring.Live.{live-needs}
use Rattle.rules.proofs.Ring.Fits.{IsNoRoom, IsLeast, none-room, room-none, turns-least, one-turn, each_map, map_each}
use Rattle.rules.proofs.Ring.LiveBySector.{ring-sectors, sectors-ring}
use Rattle.rules.proofs.Due.Calls.{IsCoverable, answer-whole, answer-cut, write-coverable, delete-coverable}
use Rattle.rules.proofs.Blocks.OnBytes.{HasBlocks, call-on}
use Rattle.rules.proofs.Crash.Mounting.{Settled}
use Rattle.rules.proofs.Crash.Reads.{settled-state, settled-lookup, settled-reads}
use Rattle.rules.proofs.Crash.Invariant.{Invariant}

-- a call whose stores are known lands
unfoldable pub succeeds-of : {what : Due} (stores : List Store) (turns most : ℕ) → what ≡ make stores turns → turns ≤ most → IsCoverable what → Succeeds what most
unfolding answer_numbers gives Rattle.rules.specs.Demands.IsBudget
succeeds-of {what} stores turns most is few covered =
    record {
      stores = length stores;
      turns = turns;
      few = few;
      enough = covered stores turns is;
      whole = λ a h. ap (λ (d : Due). answer_numbers (answer d a)) is ∙ ap answer_numbers (answer-whole stores turns a h);
      short = λ a h. ap (λ (d : Due). answer_numbers (answer d a)) is ∙ ap answer_numbers (answer-cut stores turns a h);
    }

filled : (bytes : List ℕ) → 1 ≤ length bytes → is_empty bytes ≡ false
unfolding is_empty
filled [] h = absurd (not-suc-le-zero h)
filled (b ∷ bs) h = refl

value-need : (id : ℕ) (bytes : List ℕ) {n : ℕ} → need_of (value id (length bytes)) ≤ n → need_of (value_entry id bytes).head ≤ n
unfolding value_entry
value-need id bytes h = h

-- which of the two a change is
module _ (B S w limit : ℕ) (e : Entry) (im : Image) where
  pub change-none : least_turns (need_of e.head) limit w (views_of B im) ≡ none → change_on B S w limit e im ≡ refuse no_room
  unfolding change_on
  change-none found = ap (λ (o : Option ℕ). elim o [ none ↦ refuse no_room | some t ↦ make (change B S t w e im) t ]) found

  pub change-some : (t : ℕ) → least_turns (need_of e.head) limit w (views_of B im) ≡ some t → change_on B S w limit e im ≡ make (change B S t w e im) t
  unfolding change_on
  change-some t found = ap (λ (o : Option ℕ). elim o [ none ↦ refuse no_room | some t ↦ make (change B S t w e im) t ]) found

-- only a refusal gives 7
seven : (a : ℕ) → answer_numbers (answer (refuse no_room) a) ≡ gives 7 0 0 0
unfolding answer answer_numbers refusal_number length_told gives
seven a = refl

not-seven : (stores : List Store) (turns a : ℕ) → answer_numbers (answer (make stores turns) a) ≡ gives 7 0 0 0 → ⊥
unfolding answer_numbers gives
not-seven stores turns a e =
    by-test (leb (length stores) a)
    (λ enough. let n : ◌≡◌ {A = ℕ} 0 7 = ap (λ (x : Numbers). x.number) (sym (ap answer_numbers (answer-whole stores turns a (leb-true _ _ enough))) ∙ e) in omega arith)
    (λ short. let n : ◌≡◌ {A = ℕ} 11 7 = ap (λ (x : Numbers). x.number) (sym (ap answer_numbers (answer-cut stores turns a (leb-false _ _ short))) ∙ e) in omega arith)

one-need : (id : ℕ) → need_of (deletion id) ≡ 1
unfolding need_of
one-need id = refl

matches-some : {t : Option Entry} {entry : Option (List ℕ)} {bytes : List ℕ} → Matches t entry → entry ≡ some bytes → (e : Entry) × (t ≡ some e)
matches-some matches_nothing has = absurd (none-ne-some _ has)
matches-some (matches_value {e} sound) has = (e, refl)

-- no room by position is no room by sector number
full-no-room : (size count : ℕ) (image : List ℕ) (w need : ℕ) → length (views size count image) ≡ count → w < count
    → IsFull size count image w need ↔ IsNoRoom need (size / block_size - kept_from_values) w (views size count image)
unfolding counting
full-no-room size count image w need sized here = (to, from)
  where
    vs : List View
    vs = views size count image

    limit : ℕ
    limit = size / block_size - kept_from_values

    u : ℕ
    u = next (length vs) w

    Above : ℕ → Type 0
    Above n = limit < n + need

    spare : u < length vs
    spare = next-lt (length vs) w (subst (λ (n : ℕ). w < n) (sym sized) here)

    to : IsFull size count image w need → IsNoRoom need limit w vs
    to f =
        record {
          working = f.working;
          others =
              each_map Above needs_of (live_each (all_but u vs))
              (sectors-ring Above u vs spare
              (λ s inside apart.
              subst (λ (n : ℕ). limit < needs_of (live_in (next n w) s vs) + need) (sym sized)
              (f.others s (subst (λ (n : ℕ). s < n) sized inside) (λ e. apart (e ∙ ap (λ (n : ℕ). next n w) (sym sized))))));
        }

    from : IsNoRoom need limit w vs → IsFull size count image w need
    from r =
        record {
          working = r.working;
          others = λ s inside apart.
              subst (λ (n : ℕ). limit < needs_of (live_in (next n w) s vs) + need) sized
              (ring-sectors Above u vs spare (map_each Above needs_of (live_each (all_but u vs)) r.others) s (subst (λ (n : ℕ). s < n) (sym sized) inside) (λ e. apart (e ∙ ap (λ (n : ℕ). next n w) sized)));
        }

module _ (size count : ℕ) (image : List ℕ) (model : Model) (inv : Invariant size count image model) (q : Settled count inv.current (views size count image)) where
  abbrev B : ℕ
  B = size / block_size

  abbrev im : Image
  im = image_of B count image

  abbrev w : ℕ
  w = q.working

  abbrev T : ℕ → Option Entry
  T = inv.current

  bounds : Bounds size count (length image)
  bounds = legal-bounds size count (length image) inv.legal

  cut : HasBlocks size count image im
  cut = record { legal = inv.legal; blocks = refl }

  at_rest_lem : state_of (views_of B im) ≡ some (at_rest w)
  at_rest_lem = settled-state size count image inv.legal inv.whole q

  lookup-same : (id : ℕ) → lookup id (history (at_rest w) (views_of B im)) ≡ T id
  lookup-same = settled-lookup size count image inv.legal inv.whole q

  write-is : (id : ℕ) (bytes : List ℕ) → IsWritable size id bytes → write_due size count image id bytes ≡ change_on B count w (B - kept_from_values) (value_entry id bytes) im
  unfolding write_due write_on in_rest IsUser
  write-is id bytes ok =
      call-on size count cut refuse (λ B S i. write_on B S i id bytes)
      ∙ simp (ne_eqb id reserved_id ok.user.1, filled bytes ok.filled, le-ltb (B - kept_from_values) (need_of (value_entry id bytes).head) (value-need id bytes ok.fits), at_rest_lem)

  delete-is : (id : ℕ) (e : Entry) → IsUser id → inv.current id ≡ some e → delete_due size count image id ≡ change_on B count w (B - kept_from_deletions) (deletion_entry id) im
  unfolding delete_due delete_on in_rest IsUser
  delete-is id e user is =
      call-on size count cut refuse (λ B S i. delete_on B S i id)
      ∙ simp (ne_eqb id reserved_id user.1, at_rest_lem)
      (ap (λ (o : Option Entry). elim o [ none ↦ refuse absent | some e ↦ change_on B count w (B - kept_from_deletions) (deletion_entry id) im ]) (lookup-same id ∙ is))

  sized : length (views_of B im) ≡ count
  unfolding views
  sized = q.rests.sized

  here : w < count
  unfolding views
  here = subst (λ (n : ℕ). w < n) q.rests.sized q.rests.is.here

  full : (need : ℕ) → IsFull size count image w need ↔ IsNoRoom need (B - kept_from_values) w (views_of B im)
  unfolding views
  full need = full-no-room size count image w need sized here

  rest-refuses : (id : ℕ) (bytes : List ℕ) (a : ℕ) → IsWritable size id bytes
      → (answer_numbers (answer (write_due size count image id bytes) a) ≡ gives 7 0 0 0) ↔ IsFull size count image w (need_of (value id (length bytes)))
  unfolding value_entry
  rest-refuses id bytes a ok = (to, from)
    where
      need : ℕ
      need = need_of (value id (length bytes))

      limit : ℕ
      limit = B - kept_from_values

      from : IsFull size count image w need → answer_numbers (answer (write_due size count image id bytes) a) ≡ gives 7 0 0 0
      from f =
          ap (λ (d : Due). answer_numbers (answer d a)) (write-is id bytes ok ∙ change-none B count w limit (value_entry id bytes) im (room-none need limit w (views_of B im) ((full need).0 f)))
          ∙ seven a

      to : answer_numbers (answer (write_due size count image id bytes) a) ≡ gives 7 0 0 0 → IsFull size count image w need
      to e = go (least_turns need limit w (views_of B im)) refl
        where
          go : (o : Option ℕ) → least_turns need limit w (views_of B im) ≡ o → IsFull size count image w need
          go none found = (full need).1 (none-room need limit w (views_of B im) found)
          go (some t) found =
              absurd (not-seven (change B count t w (value_entry id bytes) im) t a (sym (ap (λ (d : Due). answer_numbers (answer d a)) (write-is id bytes ok ∙ change-some B count w limit (value_entry id bytes) im t found)) ∙ e))

  rest-writes : (id : ℕ) (bytes : List ℕ) → IsWritable size id bytes → (IsFull size count image w (need_of (value id (length bytes))) → ⊥) → Succeeds (write_due size count image id bytes) (count - 1)
  unfolding value_entry counting
  rest-writes id bytes ok room = go (least_turns need limit w (views_of B im)) refl
    where
      need : ℕ
      need = need_of (value id (length bytes))

      limit : ℕ
      limit = B - kept_from_values

      go : (o : Option ℕ) → least_turns need limit w (views_of B im) ≡ o → Succeeds (write_due size count image id bytes) (count - 1)
      go none found = absurd (room ((full need).1 (none-room need limit w (views_of B im) found)))
      go (some t) found =
          let least : IsLeast need limit w (views_of B im) t = turns-least need limit w (views_of B im) found in
          let u : ℕ = next (length (views_of B im)) w in
          let most : length (all_but u (views_of B im)) ≡ length (views_of B im) - 1 =
          length-all_but u (views_of B im) (next-lt (length (views_of B im)) w (subst (λ (n : ℕ). w < n) (sym sized) here)) in
          succeeds-of (change B count t w (value_entry id bytes) im) t (count - 1)
          (write-is id bytes ok ∙ change-some B count w limit (value_entry id bytes) im t found)
          (omega (arith, least.within, most, sized))
          (write-coverable size count image id bytes)

  rest-deletes : (id : ℕ) (bytes : List ℕ) → IsUser id → model id ≡ some bytes → Succeeds (delete_due size count image id) 1
  unfolding views counting live_each deletion_entry
  rest-deletes id bytes user has =
      let (e, is) = matches-some (inv.matches id user) has in
      let (t, found, few) = one-turn need limit w vs (omega (arith, length-all_but u vs inside, sized, bounds.sectors_from)) room in
      succeeds-of (change B count t w (deletion_entry id) im) t 1 (delete-is id e user is ∙ change-some B count w limit (deletion_entry id) im t found) few (delete-coverable size count image id)
    where
      vs : List View
      vs = views_of B im

      need : ℕ
      need = need_of (deletion id)

      limit : ℕ
      limit = B - kept_from_deletions

      u : ℕ
      u = next (length vs) w

      inside : u < length vs
      inside = next-lt (length vs) w (subst (λ (n : ℕ). w < n) (sym sized) here)

      two : 2 ≤ length vs
      two = subst (λ (n : ℕ). 2 ≤ n) (sym sized) bounds.sectors_from

      oldest : View
      oldest = view_at vs (next (length vs) u)

      beyond : next (length vs) u < count
      beyond = subst (λ (n : ℕ). next (length vs) u < n) sized (next-lt (length vs) u inside)

      first : needs_of (live_among oldest.entries (entries_in (all_but_two u vs))) ≤ B - kept_from_values
      first = omega (arith, live-needs oldest.entries (entries_in (all_but_two u vs)), (counted-view bounds.blocks_from inv.whole beyond).values)

      room : get_or (map needs_of (live_each (all_but u vs))) 0 0 + need ≤ limit
      room =
          subst (λ (l : List View). get_or (map needs_of (live_each l)) 0 0 + need ≤ limit) (sym (ring u vs inside two).oldest)
          (omega (arith, first, one-need id, bounds.blocks_from))

  -- The second and third point of demand 3, of an image at rest.
  pub rest-holds : AtRest size count image model
  unfolding views IsUser
  rest-holds =
      record {
        working = w;
        is = at_rest_lem;
        matches = λ id user. subst (λ (t : Option Entry). Matches t (model id)) (sym (lookup-same id)) (inv.matches id user);
        reads = λ id user. settled-reads size count image inv.legal inv.whole q id user.1 (inv.matches id user);
        refuses = rest-refuses;
        writes = rest-writes;
        deletes = rest-deletes;
      }
