-- Stores into the free blocks of a sector, between its data and the block that ended its reading: they do not show.
use mathlib.Core.Path.{◌≡◌, refl, ap, ◌∙◌}
use mathlib.Core.Bool.{Bool, true, false}
use mathlib.Core.List.{List, [], ◌∷◌, ◌++◌, append_assoc}
use Prim.Native.Nat.{ℕ, suc, ◌+◌, ◌<◌, ◌≤◌}
use native.Mathlib.Omega.{arith}
use lib.ListN.{length, get_or, take, drop, set, length-set}
use lib.Seq.{take-set-le, get_or-set_other, get_or-set_same, sets, sets-eq, drop_at, take_at, length-take-le}
use Rattle.rules.specs.Notation.{Each, empty, each}
use Rattle.rules.specs.Ground.{Block, Sector, blank_block}
use Rattle.rules.specs.Look.{Scan, start, look, is_entry}
use Rattle.rules.specs.Reading.{view_of, after_all, end_block}
use Rattle.rules.specs.Stores.{Store, data_stores, blank_store, blank_if}
use Rattle.rules.proofs.Terms.{IsBlock}
use Rattle.rules.proofs.Format.Look.{blank-no-entry}
use Rattle.rules.proofs.Basics.Parts.{each_take, each_weaken}
use Rattle.rules.proofs.Blocks.Stable.{view-same}
use Rattle.rules.proofs.Blocks.Written.{blank-block}
use Rattle.rules.proofs.Blocks.OnImage.{puts, puts-keep, IsIn}

-- a store of sector s, into a block from low on and below high
pub record IsFree (s low high : ℕ) (st : Store) : Type 0 where
  pub sector : st.sector ≡ s
  pub above : low ≤ st.block
  pub below : st.block < high
  pub bytes : IsBlock st.bytes

pub free_in : {B s low high : ℕ} {sts : List Store} → high ≤ B → Each (IsFree s low high) sts → Each (IsIn B s) sts
free_in inside free = each_weaken (λ st h. record { sector = h.sector; block = omega (arith, h.below); bytes = h.bytes }) free

-- blocks of data upward, and a blanking
pub data-free : (s low high b : ℕ) {blocks : List Block} → low ≤ b → b + length blocks ≤ high → Each IsBlock blocks → Each (IsFree s low high) (data_stores s b blocks)
unfolding data_stores
data-free s low high b above below empty = empty
data-free s low high b above below (each block blocks) =
    each (record { sector = refl; above = above; below = omega arith; bytes = block }) (data-free s low high (suc b) (omega arith) (omega arith) blocks)

pub each-blank : {P : Store → Type 0} (test : Bool) (s b : ℕ) → (test ≡ true → P (blank_store s b)) → Each P (blank_if test s b)
unfolding blank_if
each-blank true s b p = each (p refl) empty
each-blank false s b p = empty

pub blank-free : (test : Bool) (s low high b : ℕ) → low ≤ b → b < high → Each (IsFree s low high) (blank_if test s b)
unfolding blank_store
blank-free test s low high b above below = each-blank test s b (λ _. record { sector = refl; above = above; below = below; bytes = blank-block })

-- what they leave of a sector
pub record Keeps (low high : ℕ) (sector other : Sector) : Type 0 where
  pub sized : length other ≡ length sector
  pub above : (b : ℕ) → high ≤ b → get_or other b [] ≡ get_or sector b []
  pub below : take low other ≡ take low sector

pub free-keeps : {s low high : ℕ} {sts : List Store} → Each (IsFree s low high) sts → (sector : Sector) → Keeps low high sector (puts sts sector)
free-keeps {low = low} {high = high} free sector =
    puts-keep {R = Keeps low high sector}
    (each_weaken
    (λ st h x model_after. record {
      sized = length-set x st.block st.bytes ∙ model_after.sized;
      above = λ b from. get_or-set_other x st.block b st.bytes [] (λ same. omega (arith, h.below)) ∙ model_after.above b from;
      below = take-set-le low x st.block st.bytes h.above ∙ model_after.below;
    }) free)
    sector
    (record { sized = refl; above = λ b from. refl; below = refl })

pub free-quiet : {B s : ℕ} {sts : List Store} (sector : Sector) → 8 ≤ B
    → Each (IsFree s (after_all start (view_of B sector).entries).data_end (end_block B (view_of B sector).entries)) sts
    → (k : ℕ) → view_of B (puts (take k sts) sector) ≡ view_of B sector
free-quiet {B} {sts = sts} sector enough free k =
    let model_after : _ = free-keeps (each_take k free) sector in
    view-same B sector enough (puts (take k sts) sector) model_after.above model_after.below

-- the data blocks then lie there
pub puts-data : (s b : ℕ) (blocks : List Block) (sector : Sector) → puts (data_stores s b blocks) sector ≡ sets sector b blocks
unfolding puts data_stores
puts-data s b [] sector = refl
puts-data s b (block ∷ blocks) sector = puts-data s (suc b) blocks (set sector b block)

pub data-lies : (s b : ℕ) (blocks : List Block) (sector : Sector) → b + length blocks ≤ length sector → take (length blocks) (drop b (puts (data_stores s b blocks) sector)) ≡ blocks
data-lies s b blocks sector inside =
    let front : List Block = take b sector in
    let back : List Block = drop (b + length blocks) sector in
    let laid : puts (data_stores s b blocks) sector ≡ front ++ (blocks ++ back) = puts-data s b blocks sector ∙ sets-eq blocks sector b inside ∙ append_assoc front blocks back in
    ap (λ (x : Sector). take (length blocks) (drop b x)) laid
    ∙ ap (take (length blocks)) (drop_at front (blocks ++ back) b (length-take-le b sector (omega arith)))
    ∙ take_at blocks back (length blocks) refl

-- Where a test held of a block, it was blanked, and a blank fails the test: so it fails in either case.
pub blanked-none : (test : Block → Bool) (s b : ℕ) (sector : Sector) → test blank_block ≡ false → b < length sector
    → test (get_or (puts (blank_if (test (get_or sector b [])) s b) sector) b []) ≡ false
unfolding puts blank_if blank_store
blanked-none test s b sector fails inside = go (test (get_or sector b [])) refl
  where
    go : (held : Bool) → test (get_or sector b []) ≡ held → test (get_or (puts (blank_if held s b) sector) b []) ≡ false
    go true same = ap test (get_or-set_same sector b blank_block [] inside) ∙ fails
    go false same = same

-- an entry is such a test
pub blank_none : (B cycle : ℕ) (scan : Scan) → is_entry (look B cycle scan blank_block) ≡ false
unfolding is_entry
blank_none B cycle scan = ap is_entry (blank-no-entry B cycle scan)
