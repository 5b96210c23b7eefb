-- What a read gives of an image at rest, whoever made it: the entry that is told, as many bytes as its head says.
use Rattle.std.specs.Prelude.{if◌then◌else◌}
use mathlib.Core.Path.{◌≡◌, refl, sym, ap, subst, ◌∙◌}
use mathlib.Core.Bool.{true}
use mathlib.Core.List.{List, [], ◌∷◌, ◌++◌}
use mathlib.Core.Option.{Option, some}
use Prim.Native.Nat.{ℕ, suc, ◌*◌, ◌/◌, ◌<◌, ◌≤◌}
use native.Mathlib.Omega.{arith}
use lib.Dec.{eqb, ltb}
use lib.ListN.{length, take, drop, length-append}
use lib.Seq.{length-take-le}
use borrow.Author.Tests.{ne_eqb, lt-ltb, le-ltb, ltb-true, ltb-false}
use Rattle.rules.specs.Notation.{concat, Each, empty, each}
use Rattle.rules.specs.Ground.{Image, Block, block_size, legal_sizes, image_of, reserved_id}
use Rattle.rules.specs.Look.{Head, data_of}
use Rattle.rules.specs.Reading.{Entry, View, is_long}
use Rattle.rules.specs.Meaning.{State, at_rest, not_reopened, mid_turn, Is, views_of, view_at, next, all_but, ending_at, no_view, counting, state_of, history, entries_in, lookup, length_in, value_of}
use Rattle.rules.specs.Calls.{reserved, Reply, read_entry, reply_numbers, refusal_number, length_told, buffer_after, in_rest, read_on, read}
use Rattle.rules.specs.Demands.{views, Matches, matches_nothing, matches_value, gives, ReadsAs, reads_nothing, reads_short, reads_value, Reads}
use Rattle.rules.proofs.Terms.{IsImage, IsBlock, IsProper, HeadFits, fits-done, fits-deletion, fits-small, fits-long}
use Rattle.rules.proofs.Basics.Notation.{by-test}
use Rattle.rules.proofs.Format.Ground.{Bounds, legal-bounds}
use Rattle.rules.proofs.Basics.Parts.{each_append, each_take, each-drop}
use Rattle.rules.proofs.Basics.Places.{at_each}
use Rattle.rules.proofs.Blocks.OnImage.{proper-view, views-length}
use Rattle.rules.proofs.Ring.History.{entries_in-each}
use Rattle.rules.proofs.Ring.Changes.{IsTold, lookup-place}
use Rattle.rules.proofs.Ring.States.{is_state}
use Rattle.rules.proofs.Blocks.OnBytes.{HasBlocks, call-on}
use Rattle.rules.proofs.Blocks.Value.{roomy}
use Rattle.rules.proofs.Crash.Mounting.{Settled}
use Rattle.rules.proofs.Crash.Changing.{counted}

-- blocks put together
length-blocks : {blocks : List Block} → Each IsBlock blocks → length (concat blocks) ≡ length blocks * block_size
unfolding concat
length-blocks empty = refl
length-blocks (each {x = block} {xs = blocks} is ok) =
    let rest : length (concat blocks) ≡ length blocks * block_size = length-blocks ok in
    omega (arith, length-append block (concat blocks), is.sized)

-- an entry holds as many bytes as its head says
holds : {head : Head} {rest : List ℕ} {blocks : List Block} → HeadFits head rest → length blocks ≡ data_of head → Each IsBlock blocks
    → length_in head ≤ length (if is_long head then concat blocks else rest)
unfolding length_in is_long data_of
holds (fits-done sized padded) number ok = omega arith
holds (fits-deletion named user sized padded) number ok = omega arith
holds {blocks = blocks} (fits-small {len = len} {rest = rest} named user one few sized padded) number ok = simp (le-ltb 8 len few) (omega arith)
holds {blocks = blocks} (fits-long {len = len} named user many short sized) number ok =
    simp (lt-ltb 8 len many) (omega (arith, length-blocks ok, roomy len many))

pub proper-length : (e : Entry) → IsProper e → length (value_of e) ≡ length_in e.head
unfolding value_of
proper-length e proper = length-take-le (length_in e.head) (if is_long e.head then concat e.blocks else e.inline) (holds proper.fits proper.counted proper.blocks)

-- a read by what is told
reads-by : {t : Option Entry} {entry : Option (List ℕ)} → Matches t entry → ((e : Entry) → t ≡ some e → IsProper e) → (buffer : List ℕ)
    → ReadsAs buffer entry (reply_numbers (read_entry (length buffer) t)) (buffer_after (read_entry (length buffer) t) buffer)
unfolding read_entry reply_numbers refusal_number length_told buffer_after gives
reads-by matches_nothing proper buffer = reads_nothing
reads-by (matches_value {e} sound) proper buffer =
    let n : ℕ = length_in e.head in
    let sized : length (value_of e) ≡ n = proper-length e (proper e refl) in
    by-test (ltb (length buffer) n)
    (λ short. simp short (subst (λ (k : ℕ). ReadsAs buffer (some (value_of e)) (gives 10 0 0 k) buffer) sized (reads_short (omega (arith, ltb-true (length buffer) n short)))))
    (λ enough.
    simp (enough, sound)
    (subst (λ (k : ℕ). ReadsAs buffer (some (value_of e)) (gives 0 0 0 k) (value_of e ++ drop k buffer)) sized (reads_value (omega (arith, ltb-false (length buffer) n enough)))))

-- every entry of an image is proper
proper-views : (B S : ℕ) (im : Image) → 8 ≤ B → IsImage B S im → Each (λ (v : View). Each IsProper v.entries) (views_of B im)
unfolding view_at
proper-views B S im big ok =
    at_each (λ (v : View). Each IsProper v.entries) no_view (views_of B im)
    (λ s inside. proper-view big ok (subst (λ (n : ℕ). s < n) (views-length B im ∙ ok.sized) inside))

proper-in : {vs : List View} → Each (λ (v : View). Each IsProper v.entries) vs → Each IsProper (entries_in vs)
unfolding entries_in
proper-in empty = empty
proper-in (each p ps) = each_append p (proper-in ps)

proper-history : (B S : ℕ) (im : Image) → 8 ≤ B → IsImage B S im → (state : State) → Each IsProper (history state (views_of B im))
unfolding history counting all_but ending_at
proper-history B S im big ok state = by_state state
  where
    round : (m n : ℕ) → Each IsProper (entries_in (drop m (views_of B im) ++ take n (views_of B im)))
    round m n = let all = proper-views B S im big ok in proper-in (each_append (each-drop m all) (each_take n all))

    by_state : (state : State) → Each IsProper (history state (views_of B im))
    by_state (at_rest w) = round (suc (next (length (views_of B im)) w)) (next (length (views_of B im)) w)
    by_state (not_reopened w) = round (suc w) (suc w)
    by_state (mid_turn u) = round (suc u) u

each-mid : {P : Entry → Type 0} (before : List Entry) {e : Entry} (after : List Entry) → Each P (before ++ (e ∷ after)) → P e
each-mid [] after (each p ps) = p
each-mid (x ∷ xs) after (each p ps) = each-mid xs after ps

-- an image at rest, of legal sizes, that tells each ID what T says
module _ (size count : ℕ) (image : List ℕ) (legal : legal_sizes size count (length image) ≡ true) (whole : IsImage (size / block_size) count (image_of (size / block_size) count image))
    {T : ℕ → Option Entry} (q : Settled count T (views size count image)) where
  abbrev B : ℕ
  B = size / block_size

  abbrev im : Image
  im = image_of B count image

  abbrev w : ℕ
  w = q.working

  bounds : Bounds size count (length image)
  bounds = legal-bounds size count (length image) legal

  cut : HasBlocks size count image im
  cut = record { legal = legal; blocks = refl }

  pub settled-state : state_of (views_of B im) ≡ some (at_rest w)
  unfolding Is views
  settled-state = is_state (views_of B im) (at_rest w) q.rests.is

  pub settled-lookup : (id : ℕ) → lookup id (history (at_rest w) (views_of B im)) ≡ T id
  unfolding history views
  settled-lookup id =
      ap (lookup id) (entries_in-each (counting (at_rest w) (views_of B im)) ∙ ap concat (counted count bounds.sectors_from q.rests)) ∙ q.matches id

  lookup-proper : (id : ℕ) (e : Entry) → T id ≡ some e → IsProper e
  lookup-proper id e is =
      let place : IsTold id (history (at_rest w) (views_of B im)) e = lookup-place id (history (at_rest w) (views_of B im)) (settled-lookup id ∙ is) in
      each-mid place.before place.after (subst (Each IsProper) place.placed (proper-history B count im bounds.blocks_from whole (at_rest w)))

  pub settled-read : (id n : ℕ) → read size count image id n ≡ (if eqb id reserved_id then Reply.refused reserved else read_entry n (T id))
  unfolding read read_on in_rest
  settled-read id n =
      call-on size count cut Reply.refused (λ B S i. read_on B S i id n)
      ∙ simp (settled-state, settled-lookup id)

  pub settled-reads : (id : ℕ) {entry : Option (List ℕ)} → (id ≡ reserved_id → ⊥) → Matches (T id) entry → Reads size count image id entry
  unfolding Reads
  settled-reads id {entry} user matches buffer =
      subst (λ (r : Reply). ReadsAs buffer entry (reply_numbers r) (buffer_after r buffer)) (sym (settled-read id (length buffer) ∙ simp (ne_eqb id reserved_id user)))
      (reads-by matches (lookup-proper id) buffer)
