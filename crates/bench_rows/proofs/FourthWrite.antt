-- Bench sheet, row 9: on a fresh 2 x 128 ID 7 is written with any eight bytes, and the fourth write takes a turn that copies the
-- third value.
use Rattle.std.specs.Prelude.{if◌then◌else◌}
use mathlib.Core.Path.{◌≡◌, refl, sym, ap, ap₂, subst, ◌∙◌}
use mathlib.Core.Bool.{true, false}
use mathlib.Core.List.{List, [], ◌∷◌, ◌++◌}
use mathlib.Core.Option.{some}
use Prim.Native.Nat.{ℕ, ◌+◌, ◌-◌, ◌<◌, ◌≤◌}
use native.Mathlib.Omega.{arith}
use lib.ListN.{length, get_or, set, take}
use lib.Seq.{take_all, get_or-set_same, get_or-set_other}
use Rattle.rules.specs.Notation.{pieces, erased}
use Rattle.rules.specs.Ground.{Block, Sector, Image, block_at, store}
use Rattle.rules.specs.Entry.{done_block, close_block}
use Rattle.rules.specs.Look as look
use Rattle.rules.specs.Look.{start, is_close, is_entry, is_within, data_blocks, need_of}
use Rattle.rules.specs.Reading.{Entry, View, after_all}
use Rattle.rules.specs.Meaning.{views_of, view_at, next, all_but, live_each, needs_of}
use Rattle.rules.specs.Stores.{Store, Kind, apply, done_entry, value_entry, least_turns}
use Rattle.rules.specs.Calls.{Due, make, done, answer, made, write_on, leaves}
use Rattle.rules.specs.Demands.{write, IsUser, IsId, plenty, budget, due, run, step}
use Rattle.bench_rows.specs.BenchSheet.{Fresh, image_after, answers, Bytes, trace, three_writes, fourth_write, FourthWrite}
use Rattle.rules.proofs.Terms.{IsProper}
use Rattle.rules.proofs.Basics.Parts.{each_take}
use Rattle.rules.proofs.Format.Look.{need-blocks}
use Rattle.rules.proofs.Computing.{computing}
use Rattle.rules.proofs.Blocks.OnImage.{sector-at}
use Rattle.rules.proofs.Blocks.OnBytes.{HasBlocks, due_on, due-on, leaves-on, inside-lie}
use Rattle.bench_rows.proofs.Fresh.{fresh-blocks}
use Rattle.bench_rows.proofs.Clear.{clear_stores}
use Rattle.bench_rows.proofs.ClearTurn.{Fits, no_more, fits, IsQuiet, clear_all, finish_stores}
use Rattle.bench_rows.proofs.Filling.{views_with, Filled, filled-fresh, IsValue, value-entry, value-stores, value-within, write-by, write-filled, write-more, write-inside}
use Rattle.bench_rows.proofs.Overflow.{close_store, closed_views, closed, closed-views, overflow-stores}

pub big : 8 ≤ 8
big = omega arith

pub most : 8 ≤ 4096
most = omega arith

-- the entry of eight bytes of ID 7
unfoldable pub entry : Bytes 8 → Entry
entry v = record { head = look.value 7 8; inline = v.bytes ++ erased (8 - length v.bytes); blocks = [] }

module _ (v : Bytes 8) where
  pub entry_of : value_entry 7 v.bytes ≡ entry v
  unfolding value_entry entry pieces data_blocks
  entry_of = simp v.sized

  pub is-value : IsValue 8 7 v.bytes
  unfolding IsUser IsId
  is-value =
      record {
        user = (omega arith, λ same. omega arith);
        typed = v.typed;
        some_bytes = omega (arith, v.sized);
        short = omega (arith, (need-blocks (length v.bytes)).1 (omega (arith, v.sized)));
      }

-- ---- a write that fits

-- what it answers and leaves
pub record Landed (image : List ℕ) (v : Bytes 8) (es : List Entry) : Type 0 where
  pub says : answer (due 128 2 image (write 7 v.bytes plenty)) plenty ≡ done 1 0
  pub blocks : Image
  pub left : HasBlocks 128 2 (leaves 128 (due 128 2 image (write 7 v.bytes plenty)) plenty image) blocks
  pub filled : Filled 8 0 blocks (es ++ (entry v ∷ []))

lands : (v : Bytes 8) {image : List ℕ} {im : Image} {es : List Entry} → HasBlocks 128 2 image im → Filled 8 0 im es → needs_of es ≤ 2 → Landed image v es
unfolding due_on answer made
lands v {image} {im} {es} c f room =
    let few : length v.bytes ≤ 8 = omega (arith, v.sized) in
    let none_more : data_blocks (length v.bytes) ≡ 0 = (need-blocks (length v.bytes)).1 few in
    let here : needs_of es + (1 + data_blocks (length v.bytes)) ≤ 3 = omega arith in
    let stores : List Store = clear_stores 8 1 0 (done_entry ∷ es) (value_entry 7 v.bytes) in
    let what : due 128 2 image (write 7 v.bytes plenty) ≡ make stores 0 = due-on 128 2 c (write 7 v.bytes plenty) ∙ write-filled 8 big most (is-value v) 0 f here in
    let count : length stores ≡ 1 = value-stores 8 big most (is-value v) 1 0 (done_entry ∷ es) ∙ omega arith in
    let all : take plenty stores ≡ stores = take_all plenty stores (omega arith) in
    record {
      says = ap (λ (d : Due). answer d plenty) what ∙ simp count;
      blocks = apply (take plenty stores) im;
      left =
          subst (λ (d : Due). HasBlocks 128 2 (leaves 128 d plenty image) (apply (take plenty stores) im)) (sym what)
          (leaves-on 128 2 c (make stores 0) plenty (each_take plenty (inside-lie (write-inside 8 big most (is-value v) 0 f here))));
      filled =
          subst (λ (e : Entry). Filled 8 0 (apply (take plenty stores) im) (es ++ (e ∷ []))) (entry_of v)
          (subst (λ (ss : List Store). Filled 8 0 (apply ss im) (es ++ (value_entry 7 v.bytes ∷ []))) (sym all) (write-more 8 big most (is-value v) 0 f here));
    }

-- ---- the fourth write

-- close and done of cycle 1 do not read under cycle 2
other-close : is_close 2 (close_block 1) ≡ false
unfolding computing
other-close = refl

other-done : is_entry (look.look 8 2 start (done_block 1)) ≡ false
unfolding computing
other-done = refl

-- the third value alone lives
one-live : (a b c : Bytes 8) → get_or (live_each (all_but 1 (closed_views 0 (entry a ∷ entry b ∷ entry c ∷ [])))) 0 [] ≡ entry c ∷ []
unfolding computing entry
one-live a b c = refl

one-turn : (a b c : Bytes 8) → least_turns 1 3 0 (views_with 0 (entry a ∷ entry b ∷ entry c ∷ [])) ≡ some 1
unfolding computing entry
one-turn a b c = refl

abbrev pub fourth_stores : (c d : Bytes 8) → List Store
fourth_stores c d = (close_store 8 0 ∷ finish_stores 8 1 1 0 (entry c ∷ [])) ++ clear_stores 8 1 1 (entry c ∷ done_entry ∷ []) (entry d)

module _ (a b c d : Bytes 8) {im : Image} (f : Filled 8 0 im (entry a ∷ entry b ∷ entry c ∷ [])) where
  pub proper : IsProper (entry c)
  proper = subst IsProper (entry_of c) (value-entry 8 big most (is-value c))

  pub copied : Fits 8 [] (entry c ∷ [])
  unfolding computing entry
  copied = fits proper refl no_more

  pub within : is_within 8 (after_all start (entry c ∷ [])) done_entry.head ≡ true
  unfolding computing entry
  within = refl

  pub quiet : IsQuiet 8 0 (closed 8 0 big most f)
  unfolding view_at block_at apply store
  quiet =
      let first : 0 < 2 = omega arith in
      let sized : length (get_or im 0 []) ≡ 8 = (sector-at f.whole first).sized in
      let here : get_or (closed 8 0 big most f) 0 [] ≡ set (get_or im 0 []) 6 (close_block 1) = get_or-set_same im 0 (set (get_or im 0 []) 6 (close_block 1)) [] (omega (arith, f.whole.sized)) in
      record {
        cycle = ap (λ (vs : List View). (view_at vs 0).cycle) (closed-views 8 0 big most f);
        close = ap (λ (x : Sector). is_close 2 (get_or x 6 [])) here ∙ ap (is_close 2) (get_or-set_same (get_or im 0 []) 6 (close_block 1) [] (omega arith)) ∙ other-close;
        entry =
            ap (λ (x : Sector). is_entry (look.look 8 2 start (get_or x 5 []))) here
            ∙ ap (λ (block : Block). is_entry (look.look 8 2 start block)) (get_or-set_other (get_or im 0 []) 6 5 (close_block 1) [] (λ same. omega arith) ∙ f.done)
            ∙ other-done;
      }

  pub fourth-due : write_on 8 2 im 7 d.bytes ≡ make (fourth_stores c d) 1
  unfolding next entry needs_of need_of done_entry data_blocks
  fourth-due =
      let few : length d.bytes ≤ 8 = omega (arith, d.sized) in
      let none_more : data_blocks (length d.bytes) ≡ 0 = (need-blocks (length d.bytes)).1 few in
      let first : 0 < 2 = omega arith in
      let least : least_turns (1 + data_blocks (length d.bytes)) 3 0 (views_of 8 im) ≡ some 1 =
      ap₂ (λ (n : ℕ) (vs : List View). least_turns (1 + n) 3 0 vs) none_more f.views ∙ one-turn a b c in
      write-by 8 big most (is-value d) 2 im 1 f.rests least
      ∙ ap (λ (ss : List Store). make ss 1)
      (overflow-stores 8 0 big most f 0 refl first (λ same. omega arith) (one-live a b c) copied within quiet (value_entry 7 d.bytes) (value-entry 8 big most (is-value d))
      (value-within 8 big most (is-value d) (entry c ∷ done_entry ∷ []) (omega arith)))
      ∙ ap (λ (e : Entry). make ((close_store 8 0 ∷ finish_stores 8 1 1 0 (entry c ∷ [])) ++ clear_stores 8 1 1 (entry c ∷ done_entry ∷ []) e) 1) (entry_of d)

-- what it prints
fourth-lines : (c d : Bytes 8) → trace (make (fourth_stores c d) 1)
    ≡ (0, 6, Kind.close) ∷ (1, 5, Kind.value) ∷ (1, 4, Kind.done) ∷ (0, 7, Kind.lead) ∷ (1, 3, Kind.value) ∷ []
unfolding computing trace clear_all clear_stores entry
fourth-lines c d = refl

fourth-says : (c d : Bytes 8) → answer (make (fourth_stores c d) 1) plenty ≡ done 5 1
unfolding computing clear_all clear_stores entry
fourth-says c d = refl

-- ---- row 9

module _ (image : List ℕ) (a b c d : Bytes 8) (fresh : Fresh 128 2 image) where
  first-landed : Landed image a []
  unfolding needs_of
  first-landed = lands a (fresh-blocks 128 2 fresh) (filled-fresh 8 0 big most) (omega arith)

  -- the images between the writes
  abbrev pub once : List ℕ
  once = leaves 128 (due 128 2 image (write 7 a.bytes plenty)) plenty image

  abbrev pub twice : List ℕ
  twice = leaves 128 (due 128 2 once (write 7 b.bytes plenty)) plenty once

  second-landed : Landed once b (entry a ∷ [])
  unfolding computing entry
  second-landed = lands b first-landed.left first-landed.filled (omega arith)

  pub third-landed : Landed twice c (entry a ∷ entry b ∷ [])
  unfolding computing entry
  third-landed = lands c second-landed.left second-landed.filled (omega arith)

  pub blocks : HasBlocks 128 2 (image_after 128 2 image (three_writes a b c)) third-landed.blocks
  unfolding image_after run step due budget
  blocks = third-landed.left

  pub row-9 : FourthWrite image a b c d
  unfolding answers budget due_on
  row-9 =
      let what : due 128 2 (image_after 128 2 image (three_writes a b c)) (fourth_write d plenty) ≡ make (fourth_stores c d) 1 =
      due-on 128 2 blocks (fourth_write d plenty) ∙ fourth-due a b c d third-landed.filled in
      record {
        three = simp (first-landed.says, second-landed.says, third-landed.says);
        fourth = ap (λ (x : Due). answer x plenty) what ∙ fourth-says c d;
        lines = ap trace what ∙ fourth-lines c d;
      }
