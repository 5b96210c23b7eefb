-- Bench sheet, row 10: the fourth write of row 9, cut after 2 stores and after 3, and the mount of what that leaves.
use mathlib.Core.Path.{◌≡◌, refl, sym, ap, ap₂, subst, ◌∙◌}
use mathlib.Core.Bool.{true, false}
use mathlib.Core.List.{List, [], ◌∷◌, ◌++◌}
use mathlib.Core.Option.{some}
use Prim.Native.Nat.{ℕ, ◌+◌, ◌<◌}
use native.Mathlib.Omega.{arith}
use lib.ListN.{length, get_or, set, take}
use lib.Seq.{get_or-set_same, get_or-set_other}
use Rattle.rules.specs.Notation.{when, Each}
use Rattle.rules.specs.Ground.{Block, Sector, Image, block_at, store}
use Rattle.rules.specs.Entry.{lead_block}
use Rattle.rules.specs.Look as look
use Rattle.rules.specs.Look.{start, is_close, is_entry, is_within, data_of}
use Rattle.rules.specs.Reading.{Entry, View, after_all, end_block}
use Rattle.rules.specs.Meaning.{not_reopened, mid_turn, views_of, view_at, next, all_but, live_each, is_value, state_of, history, lookup}
use Rattle.rules.specs.Stores.{Store, apply, ◌and_then◌, mount, next_cycle, reopen, survivors, finish_turn, entry_block, append, append_all, done_entry, value_entry}
use Rattle.rules.specs.Calls.{Due, refuse, make, done, answer, made, in_state, mount_turns, mount_on, mount_due, leaves}
use Rattle.rules.specs.Demands.{write, plenty, budget, due, run, step, views, Matches}
use Rattle.bench_rows.specs.BenchSheet.{Fresh, image_after, Bytes, three_writes, fourth_write, cut_after, CutAfter2}
use Rattle.rules.proofs.Terms.{IsImage, IsInside, IsAtomic, added_view, closed_view, reopened_view, changed}
use Rattle.rules.proofs.Basics.Parts.{each_append}
use Rattle.rules.proofs.Format.Entry.{cycle-encode}
use Rattle.rules.proofs.Computing.{computing}
use Rattle.rules.proofs.Blocks.OnImage.{views-length, apply-image, store_other}
use Rattle.rules.proofs.Blocks.Reopen.{other_none, reopen-atomic}
use Rattle.rules.proofs.Blocks.OnBytes.{Lies, HasBlocks, call-on, due_on, due-on, leaves-on, inside-lie}
use Rattle.rules.proofs.Blocks.Formatted.{final_bytes, final_image}
use Rattle.rules.proofs.Crash.Invariant.{value-matches}
use Rattle.bench_rows.proofs.Clear.{data_end, Clear, clear_stores, clear-views, entry-stands, kept_here}
use Rattle.bench_rows.proofs.ClearTurn.{Laid, append-laid, copies-laid, IsQuiet, reopen-quiet, lead_store, clear_all, copy_stores, finish_stores, finish-stores}
use Rattle.bench_rows.proofs.Filling.{open_view, Filled}
use Rattle.bench_rows.proofs.Overflow.{close_store, closed, closed-whole, closed-inside, closed-views, closed-others, spare-clear}
use Rattle.bench_rows.proofs.FourthWrite.{big, most, entry, entry_of, Landed, fourth_stores, proper, copied, within, quiet, fourth-due, twice, third-landed, blocks}

two-views : (vs : List View) → length vs ≡ 2 → vs ≡ view_at vs 0 ∷ view_at vs 1 ∷ []
unfolding view_at
two-views [] sized = absurd (omega arith)
two-views (v ∷ []) sized = absurd (omega arith)
two-views (v ∷ w ∷ []) sized = refl
two-views (v ∷ w ∷ x ∷ vs) sized = absurd (omega arith)

module _ (a b c d : Bytes 8) {im : Image} (f : Filled 8 0 im (entry a ∷ entry b ∷ entry c ∷ [])) where
  abbrev shut : Image
  shut = closed 8 0 big most f

  first : 0 < 2
  first = omega arith

  second : 1 < 2
  second = omega arith

  byte : 1 < 256
  byte = omega arith

  shut-whole : IsImage 8 2 shut
  shut-whole = closed-whole 8 0 big most f

  shut-spare : Clear 8 1 1 shut []
  shut-spare = spare-clear 8 0 big most f

  -- cut after 2: the third value is copied
  fits-first : is_within 8 (after_all start []) (entry c).head ≡ true
  unfolding computing entry
  fits-first = refl

  laid-2 : Laid 8 2 1 1 shut (append 8 1 (entry c)) (clear_stores 8 1 1 [] (entry c)) (entry c ∷ [])
  laid-2 = append-laid 8 2 1 1 big most byte second shut shut-whole [] shut-spare (entry c) (proper a b c d f) fits-first

  take-2 : take 2 (fourth_stores c d) ≡ close_store 8 0 ∷ clear_stores 8 1 1 [] (entry c)
  unfolding computing clear_all clear_stores entry
  take-2 = refl

  abbrev cut-2 : Image
  cut-2 = apply (clear_stores 8 1 1 [] (entry c)) shut

  views-2 : views_of 8 cut-2 ≡ closed_view (open_view (entry a ∷ entry b ∷ entry c ∷ [])) ∷ record { led = true; cycle = 1; closed = false; entries = entry c ∷ [] } ∷ []
  unfolding view_at
  views-2 = clear-views 8 2 1 1 big most byte shut shut-whole second [] shut-spare (entry c) (proper a b c d f) fits-first ∙ ap (changed (added_view (entry c)) 1) (closed-views 8 0 big most f)

  -- cut after 3: and done stands
  laid-3 : Laid 8 2 1 1 shut (append_all 8 1 (entry c ∷ []) and_then append 8 1 done_entry) (copy_stores 8 1 1 (entry c ∷ [])) (entry c ∷ done_entry ∷ [])
  laid-3 = copies-laid 8 2 1 1 big most byte second shut shut-whole shut-spare (copied a b c d f) (within a b c d f)

  take-3 : take 3 (fourth_stores c d) ≡ close_store 8 0 ∷ copy_stores 8 1 1 (entry c ∷ [])
  unfolding computing clear_all clear_stores entry
  take-3 = refl

  abbrev cut-3 : Image
  cut-3 = apply (copy_stores 8 1 1 (entry c ∷ [])) shut

  views-3 : views_of 8 cut-3 ≡ closed_view (open_view (entry a ∷ entry b ∷ entry c ∷ [])) ∷ record { led = true; cycle = 1; closed = false; entries = entry c ∷ done_entry ∷ [] } ∷ []
  unfolding view_at
  views-3 =
      two-views (views_of 8 cut-3) (views-length 8 cut-3 ∙ laid-3.whole.sized)
      ∙ ap₂ (λ (x y : View). x ∷ y ∷ []) (laid-3.other_views 0 (λ same. omega arith) ∙ ap (λ (vs : List View). view_at vs 0) (closed-views 8 0 big most f)) laid-3.clear.shows

  -- a mount of each
  state-2 : state_of (views_of 8 cut-2) ≡ some (mid_turn 1)
  unfolding computing entry
  state-2 = ap state_of views-2

  state-3 : state_of (views_of 8 cut-3) ≡ some (not_reopened 1)
  unfolding computing entry
  state-3 = ap state_of views-3

  tells-2 : lookup 7 (history (mid_turn 1) (views_of 8 cut-2)) ≡ some (entry c)
  unfolding computing entry
  tells-2 = ap (λ (vs : List View). lookup 7 (history (mid_turn 1) vs)) views-2

  -- of the third: done stands, so that the first sector is reopened
  quiet-3 : IsQuiet 8 0 cut-3
  quiet-3 =
      let shut-quiet = quiet a b c d f in
      let apart : ◌≡◌ {A = ℕ} 0 1 → ⊥ = λ same. omega arith in
      record {
        cycle = ap (λ (v : View). v.cycle) (laid-3.other_views 0 apart) ∙ shut-quiet.cycle;
        close = ap (is_close 2) (laid-3.others 0 6 apart) ∙ shut-quiet.close;
        entry = ap (λ (block : Block). is_entry (look.look 8 2 start block)) (laid-3.others 0 5 apart) ∙ shut-quiet.entry;
      }

  mount-3 : mount_on 8 2 cut-3 ≡ make (lead_store 8 0 2 ∷ []) 0
  unfolding mount_on in_state mount_turns mount next
  mount-3 = simp state-3 (ap (λ (ss : List Store). make ss 0) (reopen-quiet 8 0 cut-3 (omega (arith, laid-3.whole.sized)) quiet-3))

  -- of the second: the spare is reopened, and the turn made again
  fits-none : ◌≡◌ {A = ℕ} (data_end [] + data_of (entry c).head) 0
  unfolding computing entry
  fits-none = refl

  below-first : ◌≡◌ {A = ℕ} (end_block 8 []) 5
  unfolding computing
  below-first = refl

  kept-2 : (k : ℕ) → (k ≡ 5 → ⊥) → block_at cut-2 1 k ≡ block_at shut 1 k
  kept-2 k other =
      kept_here 8 2 1 1 big most byte shut shut-whole second [] shut-spare (entry c) (proper a b c d f) fits-first k (omega (arith, fits-none)) (λ same. other (same ∙ below-first))

  stands-2 : block_at cut-2 1 5 ≡ entry_block 1 0 (entry c)
  unfolding computing
  stands-2 = entry-stands 8 2 1 1 big most byte shut shut-whole second [] shut-spare (entry c) (proper a b c d f) fits-first

  spare-close : is_close 2 (block_at (final_image 8 0 2) 1 6) ≡ false
  unfolding computing final_bytes final_image
  spare-close = refl

  quiet-2 : IsQuiet 8 1 cut-2
  unfolding view_at entry_block
  quiet-2 =
      record {
        cycle = ap (λ (vs : List View). (view_at vs 1).cycle) views-2;
        close = ap (is_close 2) (kept-2 6 (λ same. omega arith) ∙ closed-others 8 0 big most f 1 6 (λ same. omega arith)) ∙ spare-close;
        entry =
            ap (λ (block : Block). is_entry (look.look 8 2 start block)) stands-2
            ∙ other_none 8 2 start (entry_block 1 0 (entry c)) (λ same. let z : ◌≡◌ {A = ℕ} 1 2 = sym (cycle-encode 1 _ _ _) ∙ same in omega arith);
      }

  reopens-2 : reopen 8 1 cut-2 ≡ lead_store 8 1 2 ∷ []
  reopens-2 = reopen-quiet 8 1 cut-2 (omega (arith, laid-2.whole.sized)) quiet-2

  -- the image once that is done
  abbrev again : Image
  again = apply (lead_store 8 1 2 ∷ []) cut-2

  atomic-2 : IsAtomic 8 2 (reopen 8 1) cut-2 (changed reopened_view 1 (views_of 8 cut-2))
  atomic-2 = reopen-atomic big laid-2.whole second

  again-whole : IsImage 8 2 again
  again-whole = subst (λ (ss : List Store). IsImage 8 2 (apply ss cut-2)) reopens-2 (apply-image atomic-2.inside laid-2.whole)

  again-views : views_of 8 again ≡ closed_view (open_view (entry a ∷ entry b ∷ entry c ∷ [])) ∷ record { led = true; cycle = 2; closed = false; entries = [] } ∷ []
  unfolding view_at next_cycle
  again-views = ap (λ (ss : List Store). views_of 8 (apply ss cut-2)) (sym reopens-2) ∙ atomic-2.whole ∙ ap (changed reopened_view 1) views-2

  again-clear : Clear 8 2 1 again []
  unfolding view_at block_at apply store
  again-clear =
      let here : get_or again 1 [] ≡ set (get_or cut-2 1 []) 7 (lead_block 2) = get_or-set_same cut-2 1 (set (get_or cut-2 1 []) 7 (lead_block 2)) [] (omega (arith, laid-2.whole.sized)) in
      record {
        shows = ap (λ (vs : List View). view_at vs 1) again-views;
        blank = λ k from to.
            ap (λ (x : Sector). get_or x k []) here
            ∙ get_or-set_other (get_or cut-2 1 []) 7 k (lead_block 2) [] (λ same. omega (arith, below-first))
            ∙ kept-2 k (λ same. omega (arith, below-first))
            ∙ shut-spare.blank k from to;
      }

  again-live : survivors 8 1 again ≡ entry c ∷ []
  unfolding computing entry
  again-live = ap (λ (vs : List View). get_or (live_each (all_but 1 vs)) 0 []) again-views

  again-quiet : IsQuiet 8 0 again
  unfolding view_at block_at apply
  again-quiet =
      let apart : ◌≡◌ {A = ℕ} 0 1 → ⊥ = λ same. omega arith in
      let shut-quiet = quiet a b c d f in
      let same : (k : ℕ) → block_at again 0 k ≡ block_at shut 0 k = λ k. ap (λ (x : Sector). get_or x k []) (store_other cut-2 1 7 (lead_block 2) 0 apart) ∙ laid-2.others 0 k apart in
      record {
        cycle = ap (λ (vs : List View). (view_at vs 0).cycle) again-views;
        close = ap (is_close 2) (same 6) ∙ shut-quiet.close;
        entry = ap (λ (block : Block). is_entry (look.look 8 2 start block)) (same 5) ∙ shut-quiet.entry;
      }

  mount-2 : mount_on 8 2 cut-2 ≡ make (lead_store 8 1 2 ∷ finish_stores 8 2 1 0 (entry c ∷ [])) 1
  unfolding mount_on in_state mount_turns mount ◌and_then◌ next
  mount-2 =
      let two : 2 < 256 = omega arith in
      let finishes : finish_turn 8 2 1 again ≡ finish_stores 8 2 1 0 (entry c ∷ []) =
      finish-stores 8 2 2 1 0 big most two second first (λ same. omega arith) refl again again-whole again-clear again-live (copied a b c d f) (within a b c d f) again-quiet in
      simp state-2 (ap (λ (ss : List Store). make (ss ++ finish_turn 8 2 1 (apply ss cut-2)) 1) reopens-2 ∙ ap (λ (ss : List Store). make (lead_store 8 1 2 ∷ ss) 1) finishes)

  -- the image that a cut leaves
  module _ {image : List ℕ} (h : HasBlocks 128 2 image im) where
    cut_left : (n : ℕ) {stores : List Store} → take n (fourth_stores c d) ≡ close_store 8 0 ∷ stores → Each (IsInside 8 2) stores
        → HasBlocks 128 2 (leaves 128 (due 128 2 image (write 7 d.bytes n)) n image) (apply stores shut)
    unfolding due_on made apply
    cut_left n {stores} is inside =
        subst (λ (x : Due). HasBlocks 128 2 (leaves 128 x n image) (apply stores shut)) (sym (due-on 128 2 h (write 7 d.bytes n) ∙ fourth-due a b c d f))
        (subst (λ (ss : List Store). HasBlocks 128 2 (leaves 128 (make (fourth_stores c d) 1) n image) (apply ss im)) is
        (leaves-on 128 2 h (make (fourth_stores c d) 1) n (subst (Each (Lies 8 2)) (sym is) (inside-lie (each_append (closed-inside 8 0 big most f) inside)))))

-- the stores that these mounts make
four-made : (c : Bytes 8) → answer (make (lead_store 8 1 2 ∷ finish_stores 8 2 1 0 (entry c ∷ [])) 1) plenty ≡ done 4 1
unfolding computing clear_all clear_stores entry
four-made c = refl

one-made : answer (make (lead_store 8 0 2 ∷ []) 0) plenty ≡ done 1 0
unfolding computing
one-made = refl

third-matches : (c : Bytes 8) → Matches (some (entry c)) (some c.bytes)
unfolding is_value when value_entry
third-matches c = subst (λ (e : Entry). Matches (some e) (some c.bytes)) (entry_of c) (value-matches 7 c.bytes c.typed)

module _ (image : List ℕ) (a b c d : Bytes 8) (fresh : Fresh 128 2 image) where
  abbrev third : Landed (twice image a b c d fresh) c (entry a ∷ entry b ∷ [])
  third = third-landed image a b c d fresh

  cut-after : (n : ℕ) → cut_after image a b c d n ≡ leaves 128 (due 128 2 (image_after 128 2 image (three_writes a b c)) (fourth_write d n)) n (image_after 128 2 image (three_writes a b c))
  unfolding image_after run step budget
  cut-after n = refl

  after-2 : HasBlocks 128 2 (cut_after image a b c d 2) (cut-2 a b c d third.filled)
  after-2 = subst (λ (l : List ℕ). HasBlocks 128 2 l (cut-2 a b c d third.filled)) (sym (cut-after 2)) (cut_left a b c d third.filled (blocks image a b c d fresh) 2 (take-2 a b c d third.filled) (laid-2 a b c d third.filled).inside)

  after-3 : HasBlocks 128 2 (cut_after image a b c d 3) (cut-3 a b c d third.filled)
  after-3 = subst (λ (l : List ℕ). HasBlocks 128 2 l (cut-3 a b c d third.filled)) (sym (cut-after 3)) (cut_left a b c d third.filled (blocks image a b c d fresh) 3 (take-3 a b c d third.filled) (laid-3 a b c d third.filled).inside)

  pub row-10 : CutAfter2 (cut_after image a b c d 2) c.bytes × (answer (mount_due 128 2 (cut_after image a b c d 3)) plenty ≡ done 1 0)
  unfolding mount_due views
  row-10 = (
    record {
      state = ap (λ (i : Image). state_of (views_of 8 i)) after-2.blocks ∙ state-2 a b c d third.filled;
      holds = rw (after-2.blocks, tells-2 a b c d third.filled) (third-matches c);
      mounts = ap (λ (x : Due). answer x plenty) (call-on 128 2 after-2 refuse mount_on ∙ mount-2 a b c d third.filled) ∙ four-made c;
    },
    ap (λ (x : Due). answer x plenty) (call-on 128 2 after-3 refuse mount_on ∙ mount-3 a b c d third.filled) ∙ one-made,
  )
