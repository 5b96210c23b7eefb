-- Bench sheet, rows 2 and 5: in a fresh 4 x 1024 values of one need fill the first sector without a turn, and the next one
-- takes a turn, which copies nothing.
use Rattle.std.specs.Prelude.{if◌then◌else◌}
use mathlib.Core.Path.{◌≡◌, refl, sym, ap, ap₂, subst, ◌∙◌}
use mathlib.Core.Bool.{false}
use mathlib.Core.List.{List, [], ◌∷◌, ◌++◌, map}
use mathlib.Core.Option.{some}
use Prim.Native.Nat.{ℕ, zero, suc, ◌+◌, ◌*◌, ◌<◌, ◌≤◌}
use native.Mathlib.Nat.{suc-mul}
use native.Mathlib.Omega.{arith}
use lib.ListN.{length, get_or, take, replicate, length-append}
use lib.Seq.{take_all}
use borrow.Author.Tests.{le-leb, lt-leb}
use Rattle.rules.specs.Ground.{Block, Image, block_at}
use Rattle.rules.specs.Look.{start, look, is_close, is_entry, is_within, data_blocks, need_of}
use Rattle.rules.specs.Reading.{Entry, View, after_all}
use Rattle.rules.specs.Meaning.{views_of, view_at, next, all_but, live_each, needs_of}
use Rattle.rules.specs.Stores.{Store, apply, done_entry, value_entry, least_turns}
use Rattle.rules.specs.Calls.{Due, make, Answer, done, answer, made, write_on, leaves}
use Rattle.rules.specs.Demands.{plenty, budget, due}
use Rattle.bench_rows.specs.BenchSheet.{Fresh, UserValue, write_of, answers}
use Rattle.rules.proofs.Basics.Parts.{each_take}
use Rattle.rules.proofs.Format.Look.{need-blocks}
use Rattle.rules.proofs.Computing.{computing}
use Rattle.rules.proofs.Ring.Turns.{needs-append}
use Rattle.rules.proofs.Blocks.OnBytes.{HasBlocks, due_on, due-on, leaves-on, inside-lie}
use Rattle.rules.proofs.Blocks.Formatted.{final_bytes, final_image}
use Rattle.bench_rows.proofs.Fresh.{fresh-blocks}
use Rattle.bench_rows.proofs.Clear.{clear_stores}
use Rattle.bench_rows.proofs.ClearTurn.{no_more, IsQuiet, clear_all, finish_stores}
use Rattle.bench_rows.proofs.Filling.{views_with, Filled, filled-fresh, IsValue, value-entry, value-stores, value-within, write-by, write-filled, write-more, write-inside}
use Rattle.bench_rows.proofs.Overflow.{close_store, closed_views, closed, closed-views, closed-others, overflow-stores}

big : 8 ≤ 64
big = omega arith

most : 64 ≤ 4096
most = omega arith

-- in a fresh store the third sector has nothing that reads under cycle 2
no-close : is_close 2 (block_at (final_image 64 0 4) 2 62) ≡ false
unfolding computing final_bytes final_image
no-close = refl

no-entry : is_entry (look 64 2 start (block_at (final_image 64 0 4) 2 61)) ≡ false
unfolding computing final_bytes final_image
no-entry = refl

-- what lives in it: nothing
none-live : (es : List Entry) → get_or (live_each (all_but 1 (closed_views 2 es))) 0 [] ≡ []
unfolding computing
none-live es = refl

-- a need that the first sector has no room for, but an empty one has, takes one turn
turns-by : (k : ℕ) (es : List Entry) → k ≤ 59 → 59 < needs_of es + k → least_turns k 59 0 (views_with 2 es) ≡ some 1
unfolding computing
turns-by k es fits full = simp (lt-leb (0 + needs_of es + k) 59 (omega arith), le-leb (0 + k) 59 (omega arith))

-- the stores of such a turn
three-stores : length (close_store 64 0 ∷ finish_stores 64 1 1 2 []) ≡ 3
unfolding computing clear_all clear_stores
three-stores = refl

-- values of lengths that have this need
module _ (least longest : ℕ) (some_bytes : 1 ≤ least) (k : ℕ) (fits : k ≤ 59) (needs : (v : UserValue least longest) → 1 + data_blocks (length v.bytes) ≡ k) where
  is-value : (v : UserValue least longest) → IsValue 64 v.id v.bytes
  is-value v = record { user = v.user; typed = v.typed; some_bytes = omega (arith, v.from); short = omega (arith, needs v) }

  entry-needs : (v : UserValue least longest) → needs_of (value_entry v.id v.bytes ∷ []) ≡ k
  unfolding needs_of need_of value_entry
  entry-needs v = omega (arith, needs v)

  module _ {im : Image} {es : List Entry} (f : Filled 64 2 im es) (v : UserValue least longest) where
    abbrev e : Entry
    e = value_entry v.id v.bytes

    quiet : IsQuiet 64 2 (closed 64 2 big most f)
    unfolding view_at
    quiet =
        record {
          cycle = ap (λ (vs : List View). (view_at vs 2).cycle) (closed-views 64 2 big most f);
          close = ap (is_close 2) (closed-others 64 2 big most f 2 62 (λ same. omega arith)) ∙ no-close;
          entry = ap (λ (block : Block). is_entry (look 64 2 start block)) (closed-others 64 2 big most f 2 61 (λ same. omega arith)) ∙ no-entry;
        }

    one-turn : 59 < needs_of es + k → least_turns (1 + data_blocks (length v.bytes)) 59 0 (views_of 64 im) ≡ some 1
    one-turn full = ap₂ (λ (n : ℕ) (vs : List View). least_turns n 59 0 vs) (needs v) f.views ∙ turns-by k es fits full

    turned : 59 < needs_of es + k → write_on 64 4 im v.id v.bytes ≡ make ((close_store 64 0 ∷ finish_stores 64 1 1 2 []) ++ clear_stores 64 1 1 (done_entry ∷ []) e) 1
    unfolding next is_within after_all start needs_of need_of done_entry
    turned full =
        let third : 2 < 4 = omega arith in
        write-by 64 big most (is-value v) 4 im 1 f.rests (one-turn full)
        ∙ ap (λ (ss : List Store). make ss 1)
        (overflow-stores 64 2 big most f 2 refl third (λ same. omega arith) (none-live es) no_more refl quiet e (value-entry 64 big most (is-value v))
        (value-within 64 big most (is-value v) (done_entry ∷ []) (omega (arith, needs v))))

    -- it makes three stores more than the blocks that it needs
    turned-length : length ((close_store 64 0 ∷ finish_stores 64 1 1 2 []) ++ clear_stores 64 1 1 (done_entry ∷ []) e) ≡ 3 + k
    turned-length =
        length-append (close_store 64 0 ∷ finish_stores 64 1 1 2 []) (clear_stores 64 1 1 (done_entry ∷ []) e)
        ∙ ap₂ (λ (x y : ℕ). x + y) three-stores (value-stores 64 big most (is-value v) 1 1 (done_entry ∷ []) ∙ needs v)

  -- m values that still fit, and one that does not
  runs : (m : ℕ) (vs : List (UserValue least longest)) {image : List ℕ} {im : Image} {es : List Entry}
      → HasBlocks 1024 4 image im → Filled 64 2 im es → length vs ≡ suc m → needs_of es + m * k ≤ 59 → 59 < needs_of es + suc m * k
      → answers 1024 4 image (map write_of vs) ≡ replicate m (done k 0) ++ (done (3 + k) 1 ∷ [])
  unfolding answers answer due_on budget made
  runs m [] c f sized room full = absurd (omega arith)
  runs zero (v ∷ []) {image} {im} {es} c f sized room full =
      let what = due-on 1024 4 c (write_of v) ∙ turned f v (omega (arith, suc-mul 0 k)) in
      ap (λ (d : Due). answer d plenty ∷ []) what ∙ simp (turned-length f v, le-leb (3 + k) plenty (omega arith))
  runs zero (v ∷ v' ∷ vs) c f sized room full = absurd (omega arith)
  runs (suc m) (v ∷ vs) {image} {im} {es} c f sized room full =
      let x : IsValue 64 v.id v.bytes = is-value v in
      let here : needs_of es + (1 + data_blocks (length v.bytes)) ≤ 59 = omega (arith, needs v, suc-mul m k) in
      let stores : List Store = clear_stores 64 1 0 (done_entry ∷ es) (value_entry v.id v.bytes) in
      let what : due 1024 4 image (write_of v) ≡ make stores 0 = due-on 1024 4 c (write_of v) ∙ write-filled 64 big most x 2 f here in
      let count : length stores ≡ k = value-stores 64 big most x 1 0 (done_entry ∷ es) ∙ needs v in
      let all : take plenty stores ≡ stores = take_all plenty stores (omega arith) in
      let left : HasBlocks 1024 4 (leaves 1024 (make stores 0) plenty image) (apply (take plenty stores) im) = leaves-on 1024 4 c (make stores 0) plenty (each_take plenty (inside-lie (write-inside 64 big most x 2 f here))) in
      let more : needs_of (es ++ (value_entry v.id v.bytes ∷ [])) ≡ needs_of es + k = needs-append es (value_entry v.id v.bytes ∷ []) ∙ ap (λ (n : ℕ). needs_of es + n) (entry-needs v) in
      let rest = runs m vs left (subst (λ (ss : List Store). Filled 64 2 (apply ss im) (es ++ (value_entry v.id v.bytes ∷ []))) (sym all) (write-more 64 big most x 2 f here)) (omega arith)
      (omega (arith, suc-mul m k)) (omega (arith, suc-mul (suc m) k)) in
      ap (λ (d : Due). answer d plenty ∷ answers 1024 4 (leaves 1024 d plenty image) (map write_of vs)) what
      ∙ simp (count, le-leb k plenty (omega arith)) (ap (λ (l : List Answer). done k 0 ∷ l) rest)

pub sixty-writes : (image : List ℕ) (values : List (UserValue 1 8)) → Fresh 1024 4 image → length values ≡ 60
    → answers 1024 4 image (map write_of values) ≡ replicate 59 (done 1 0) ++ (done 4 1 ∷ [])
unfolding needs_of
sixty-writes image values fresh sixty =
    runs 1 8 (omega arith) 1 (omega arith) (λ v. ap (λ (n : ℕ). 1 + n) ((need-blocks (length v.bytes)).1 v.to)) 59 values (fresh-blocks 1024 4 fresh) (filled-fresh 64 2 big most) sixty
    (omega arith) (omega arith)

-- 64 bytes have need 5
pub need-of-64 : (len : ℕ) → len ≡ 64 → 1 + data_blocks len ≡ 5
unfolding computing
need-of-64 len e = rw e

pub twelve-writes : (image : List ℕ) (values : List (UserValue 64 64)) → Fresh 1024 4 image → length values ≡ 12
    → answers 1024 4 image (map write_of values) ≡ replicate 11 (done 5 0) ++ (done 8 1 ∷ [])
unfolding needs_of
twelve-writes image values fresh twelve =
    runs 64 64 (omega arith) 5 (omega arith) (λ v. need-of-64 (length v.bytes) (omega (arith, v.from, v.to))) 11 values (fresh-blocks 1024 4 fresh) (filled-fresh 64 2 big most) twelve
    (omega arith) (omega arith)
