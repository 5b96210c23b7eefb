-- An allowance can cover whatever a call is due: fewer than 2^32 stores. And what each allowance then answers. What it turns
-- on: a change makes no more turns than the image has sectors, and what is not refused as too long has at most B data blocks.
-- Assumes nothing.
use mathlib.Core.Path.{◌≡◌, refl, ap}
use mathlib.Core.List.{List, [], ◌∷◌, ◌++◌, map}
use mathlib.Core.Logic.{⊎_elim}
use mathlib.Core.Option.{Option, none, some, some-injective, none-ne-some}
use Prim.Native.Nat.{ℕ, suc, ◌+◌, ◌*◌, ◌-◌, ◌/◌, ◌<◌, ◌≤◌, ◌^◌}
use native.Mathlib.Nat.{mul-le-mul}
use native.Mathlib.Omega.{arith}
use lib.Dec.{leb, ltb, eqb}
use lib.ListN.{length, take, length-append, length-take, length-drop, length-map}
use borrow.Author.Tests.{le-leb, lt-leb, ltb-false}
use Rattle.rules.specs.Notation.{is_empty, erased}
use Rattle.rules.specs.Ground.{Image, legal_sizes, image_of, block_size, reserved_id, kept_from_values, kept_from_deletions}
use Rattle.rules.specs.Look.{need_of, data_blocks}
use Rattle.rules.specs.Reading.{Entry, View, view_of}
use Rattle.rules.specs.Meaning.{State, at_rest, not_reopened, mid_turn, views_of, view_at, state_of, next, all_but, counting, history, lookup, live_each, needs_of}
use Rattle.rules.specs.Stores.{Store, format, first_fit, least_turns, change, value_entry, deletion_entry}
use Rattle.rules.specs.Calls.{Due, refuse, make, Refusal, geometry, reserved, empty, too_long, no_room, absent, done, cut, answer, in_state, in_rest, format_on, mount_on, change_on, write_on, delete_on, at_sizes, format_due, mount_due, write_due, delete_due, made}
use Rattle.rules.proofs.Basics.Notation.{if-cases, if-either}
use Rattle.rules.proofs.Format.Ground.{length-pieces, Bounds, legal-bounds}
use Rattle.rules.proofs.Due.Few.{IsShort}
use Rattle.rules.proofs.Due.Bound.{mount-due, change-due}
use Rattle.rules.proofs.Blocks.Formatted.{length-format, length-image}
use Rattle.rules.proofs.Ring.LiveBySector.{length-live_each}

-- ---- what an allowance answers

-- 11 is "allowance below the stores due": every one from the stores due upward is enough
pub answer-whole : (stores : List Store) (turns a : ℕ) → length stores ≤ a → answer (make stores turns) a ≡ done (length stores) turns
unfolding answer
answer-whole stores turns a enough = simp (le-leb (length stores) a enough)

pub answer-cut : (stores : List Store) (turns a : ℕ) → a < length stores → answer (make stores turns) a ≡ cut a
unfolding answer
answer-cut stores turns a short = simp (lt-leb (length stores) a short)

-- ---- what an allowance can cover

-- and what it lets be made
pub made-make : (stores : List Store) (turns a : ℕ) → made (make stores turns) a ≡ take a stores
unfolding made
made-make stores turns a = refl

-- the stores due are a number of 32 bits
abbrev pub IsCoverable : Due → Type 0
IsCoverable due = (stores : List Store) (turns : ℕ) → due ≡ make stores turns → length stores < 2 ^ 32

refuse-coverable : (r : Refusal) → IsCoverable (refuse r)
refuse-coverable r stores turns e = let z : ◌≡◌ {A = ℕ} 0 1 = cc in omega arith

make-coverable : (stores : List Store) (turns : ℕ) → length stores < 2 ^ 32 → IsCoverable (make stores turns)
make-coverable stores turns low stores' turns' e = let same : stores ≡ stores' = cc in omega (arith, ap length same)

in-state : (o : Option State) (call : State → Due) → ((state : State) → IsCoverable (call state)) → IsCoverable (in_state o refuse call)
unfolding in_state
in-state none call covered = refuse-coverable _
in-state (some state) call covered = covered state

in_rest_lem : (o : Option State) (call : ℕ → Due) → ((w : ℕ) → IsCoverable (call w)) → IsCoverable (in_rest o refuse call)
unfolding in_rest
in_rest_lem none call covered = refuse-coverable _
in_rest_lem (some (at_rest w)) call covered = covered w
in_rest_lem (some (not_reopened w)) call covered = refuse-coverable _
in_rest_lem (some (mid_turn u)) call covered = refuse-coverable _

-- ---- the turns of a change: no more than the image has sectors

first-fit-below : (need limit t : ℕ) (ns : List ℕ) {k : ℕ} → first_fit need limit t ns ≡ some k → k < t + length ns
unfolding first_fit
first-fit-below need limit t [] {k} e = absurd (none-ne-some k e)
first-fit-below need limit t (n ∷ ns) {k} e =
    ⊎_elim (λ l. let same : t ≡ k = some-injective t k l.1 in omega arith)
    (λ r. omega (arith, first-fit-below need limit (suc t) ns r.1))
    (if-cases (leb (n + need) limit) _ _ e)

length-all-but {ℓ} : {A : Type ℓ} (u : ℕ) (xs : List A) → length (all_but u xs) ≤ length xs
unfolding all_but
length-all-but u xs = simp (length-append, length-take, length-drop) (omega arith)

least-turns-few : (need limit w : ℕ) (views : List View) {count : ℕ} → least_turns need limit w views ≡ some count → count ≤ length views
unfolding least_turns counting
least-turns-few need limit w views e =
    let u : ℕ = next (length views) w in
    let live = live_each (all_but u views) in
    omega
    (arith, first-fit-below need limit 0 (needs_of (view_at views w).entries ∷ map needs_of live) e, length-map live needs_of, length-live_each (all_but u views), length-all-but u views)

-- ---- the calls on an image

module _ (B S : ℕ) (im : Image) (low : B ≤ 4096) where
  pub mount-on-coverable : IsCoverable (mount_on B S im)
  unfolding mount_on
  mount-on-coverable = in-state (state_of (views_of B im)) _ (λ state. make-coverable _ _ (mount-due B low S state im))

  module _ (few : length im ≤ 64) where
    change-on-coverable : (w limit : ℕ) (e : Entry) → IsShort e → IsCoverable (change_on B S w limit e im)
    unfolding change_on views_of
    change-on-coverable w limit e short = go (least_turns (need_of e.head) limit w (views_of B im)) refl
      where
        go : (o : Option ℕ) → least_turns (need_of e.head) limit w (views_of B im) ≡ o → IsCoverable (elim o [ none ↦ refuse no_room | some turns ↦ make (change B S turns w e im) turns ])
        go none least = refuse-coverable no_room
        go (some turns) least =
            let most : turns ≤ 64 = omega (arith, least-turns-few (need_of e.head) limit w (views_of B im) least, length-map im (view_of B)) in
            make-coverable (change B S turns w e im) turns (change-due B low S turns w e most short im)

    -- a value that is not too long has at most B data blocks
    pub write-on-coverable : (id : ℕ) (value : List ℕ) → IsCoverable (write_on B S im id value)
    unfolding write_on value_entry need_of
    write-on-coverable id value =
        if-either IsCoverable (eqb id reserved_id) (λ _. refuse-coverable reserved)
        (λ _. if-either IsCoverable (is_empty value) (λ _. refuse-coverable empty)
        (λ _. if-either IsCoverable (ltb (B - kept_from_values) (1 + data_blocks (length value))) (λ _. refuse-coverable too_long)
        (λ fits.
        let e : Entry = value_entry id value in
        let short : IsShort e =
        omega (arith, ltb-false (B - kept_from_values) (1 + data_blocks (length value)) fits, length-pieces (data_blocks (length value)) block_size (value ++ erased (data_blocks (length value) * block_size - length value))) in
        in_rest_lem (state_of (views_of B im)) (λ w. change_on B S w (B - kept_from_values) e im) (λ w. change-on-coverable w (B - kept_from_values) e short))))

    pub delete-on-coverable : (id : ℕ) → IsCoverable (delete_on B S im id)
    unfolding delete_on deletion_entry
    delete-on-coverable id =
        if-either IsCoverable (eqb id reserved_id) (λ _. refuse-coverable reserved)
        (λ _. in_rest_lem (state_of (views_of B im)) _ (λ w. go w (lookup id (history (at_rest w) (views_of B im)))))
      where
        go : (w : ℕ) (o : Option Entry) → IsCoverable (elim o [ none ↦ refuse absent | some e ↦ change_on B S w (B - kept_from_deletions) (deletion_entry id) im ])
        go w none = refuse-coverable absent
        go w (some e) = change-on-coverable w (B - kept_from_deletions) (deletion_entry id) (omega arith)

pub format-on-coverable : (B S : ℕ) (im : Image) → 1 ≤ B → B ≤ 4096 → 1 ≤ S → S ≤ 64 → IsCoverable (format_on B S im)
unfolding format_on
format-on-coverable B S im some_block low some-sector few =
    make-coverable (format B S) 0 (omega (arith, length-format B S some_block some-sector, mul-le-mul few low))

-- ---- the calls on bytes: what is not refused for its sizes is covered

module _ (size count : ℕ) (bytes : List ℕ) where
  at-sizes : (call : (B S : ℕ) → Image → Due)
      → ((B S : ℕ) (im : Image) → 1 ≤ B → B ≤ 4096 → 1 ≤ S → S ≤ 64 → length im ≤ 64 → IsCoverable (call B S im))
      → IsCoverable (at_sizes size count bytes refuse call)
  unfolding at_sizes
  at-sizes call covered =
      if-either IsCoverable (legal_sizes size count (length bytes))
      (λ legal.
      let bounds : Bounds size count (length bytes) = legal-bounds size count (length bytes) legal in
      covered (size / block_size) count (image_of (size / block_size) count bytes)
      (omega arith) bounds.blocks_to (omega arith) bounds.sectors_to (omega (arith, length-image (size / block_size) count bytes)))
      (λ _. refuse-coverable geometry)

  pub format-coverable : IsCoverable (format_due size count bytes)
  unfolding format_due
  format-coverable = at-sizes format_on (λ B S im some_block low some-sector few _. format-on-coverable B S im some_block low some-sector few)

  pub mount-coverable : IsCoverable (mount_due size count bytes)
  unfolding mount_due
  mount-coverable = at-sizes mount_on (λ B S im _ low _ _ _. mount-on-coverable B S im low)

  pub write-coverable : (id : ℕ) (value : List ℕ) → IsCoverable (write_due size count bytes id value)
  unfolding write_due
  write-coverable id value = at-sizes (λ B S im. write_on B S im id value) (λ B S im _ low _ _ few. write-on-coverable B S im low few id value)

  pub delete-coverable : (id : ℕ) → IsCoverable (delete_due size count bytes id)
  unfolding delete_due
  delete-coverable id = at-sizes (λ B S im. delete_on B S im id) (λ B S im _ low _ _ few. delete-on-coverable B S im low few id)
