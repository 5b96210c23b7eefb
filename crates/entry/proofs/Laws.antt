-- What the proofs share: the crate's types and those of the rules go over into each other, and bounds.
-- Assumes nothing.
use Rattle.std.specs.Prelude.{Some, None, Ok, Err, is_ok, option_map}
use Rattle.std.proofs.lemmas.Option.{none-some, same_Some}
use mathlib.Core.Path.{◌≡◌, refl, sym, ap, ◌∙◌}
use mathlib.Core.Bool.{Bool, true, false, false≢true}
use mathlib.Core.List.{List}
use mathlib.Core.Option.{Option, none, some}
use Prim.Native.Nat.{ℕ, ◌-◌, ◌<◌, ◌≤◌, ◌^◌}
use native.Mathlib.Omega.{arith}
use lib.ListN.{length, take, drop}
use Rattle.rules.specs.Ground.{block_size}
use Rattle.rules.specs.Look as rule
use Rattle.rules.specs.Look.{data_blocks, is_entry}
use Rattle.rules.proofs.Basics.Lists.{part_to_end}
use Rattle.rules.proofs.Format.Look.{need-blocks}
use lib.Dec.{leb}
use Rattle.std.proofs.lemmas.Bool.{leb-true, leb-false}
use Rattle.layout.specs.Options.{option_as}
use Rattle.entry.specs.declared.Scan.{Scan}
use Rattle.entry.specs.declared.Head.{Head}
use Rattle.entry.specs.declared.Head.TheVariants.{Done, Deletion, Value}
use Rattle.entry.specs.declared.NoEntry.{NoEntry}
use Rattle.entry.specs.Answer.{head_of, head_as, scan_of, scan_as, reason_of, verdict_as}

-- ---- heads and forms

pub head-as-of : (head : Head) → head_as (head_of head) ≡ head
head-as-of Done = refl
head-as-of (Deletion id) = refl
head-as-of (Value id len) = refl

pub head-of-as : (head : rule.Head) → head_of (head_as head) ≡ head
head-of-as rule.done = refl
head-of-as (rule.deletion id) = refl
head-of-as (rule.value id len) = refl

-- a right form is that of its head, and a wrong one of none
pub right-form : (o : Option rule.Head) {head : Head} → option_map head_as (option_as o) ≡ Some head → o ≡ some (head_of head)
right-form none {head} e = absurd (none-some head e)
right-form (some h) {head} e = ap (λ (x : rule.Head). some x) (sym (head-of-as h) ∙ ap head_of (same_Some (head_as h) head e))

pub wrong-form : (o : Option rule.Head) → option_map head_as (option_as o) ≡ None → o ≡ none
wrong-form none e = refl
wrong-form (some h) e = absurd (none-some (head_as h) (sym e))

-- ---- verdicts

ok-err : {x : Head × Scan} {y : NoEntry} → Ok x ≡ Err y → ⊥
ok-err e = cc

err-ok : {x : Head × Scan} {y : NoEntry} → Err y ≡ Ok x → ⊥
err-ok e = cc

-- an entry, with what its sector comes to after it
pub is-entry : (before : rule.Scan) (v : rule.Verdict) {found : Head × Scan} → verdict_as before v ≡ Ok found
    → (h : rule.Head) × (v ≡ rule.entry h) × (scan_of found.1 ≡ rule.after before h)
is-entry before (rule.entry h) {found} e =
    let same : ◌≡◌ {A = Head × Scan} (head_as h, scan_as (rule.after before h)) found = cc in
    (h, refl, ap (λ (p : Head × Scan). scan_of p.1) (sym same))
is-entry before rule.blank {found} e = absurd (err-ok e)
is-entry before rule.other_cycle {found} e = absurd (err-ok e)
is-entry before rule.wrong_check {found} e = absurd (err-ok e)
is-entry before rule.wrong_form {found} e = absurd (err-ok e)
is-entry before rule.over_limit {found} e = absurd (err-ok e)

-- none, for the reason told
pub no-entry : (before : rule.Scan) (v : rule.Verdict) {reason : NoEntry} → verdict_as before v ≡ Err reason
    → (is_entry v ≡ false) × (reason ≡ reason_of v)
unfolding is_entry
no-entry before (rule.entry h) e = absurd (ok-err e)
no-entry before rule.blank e = (refl, cc)
no-entry before rule.other_cycle e = (refl, cc)
no-entry before rule.wrong_check e = (refl, cc)
no-entry before rule.wrong_form e = (refl, cc)
no-entry before rule.over_limit e = (refl, cc)

-- whether it is one
pub ok-entry : (before : rule.Scan) (v : rule.Verdict) → is_ok (verdict_as before v) ≡ is_entry v
unfolding is_entry
ok-entry before (rule.entry h) = refl
ok-entry before rule.blank = refl
ok-entry before rule.other_cycle = refl
ok-entry before rule.wrong_check = refl
ok-entry before rule.wrong_form = refl
ok-entry before rule.over_limit = refl

-- and the verdict by its reason
pub err-reason : (before : rule.Scan) (v : rule.Verdict) → is_entry v ≡ false → Err (reason_of v) ≡ verdict_as before v
unfolding is_entry
err-reason before (rule.entry h) e = absurd (false≢true (sym e))
err-reason before rule.blank e = refl
err-reason before rule.other_cycle e = refl
err-reason before rule.wrong_check e = refl
err-reason before rule.wrong_form e = refl
err-reason before rule.over_limit e = refl

-- ---- bounds

-- a length of two bytes takes few data blocks
pub few-data : (len : ℕ) → len < 2 ^ 16 → data_blocks len ≤ 4096
few-data len short = go (leb len 8) refl
  where
    go : (t : Bool) → leb len 8 ≡ t → data_blocks len ≤ 4096
    go true e = rw ((need-blocks len).1 (leb-true len 8 e)) (omega arith)
    go false e = rw ((need-blocks len).0 (leb-false len 8 e)) (omega arith)

-- ---- a part of a block

-- what lies from byte m on
pub rest_of_block : (m : ℕ) (block : List ℕ) → length block ≡ block_size → take (block_size - m) (drop m block) ≡ drop m block
rest_of_block m block whole = ap (λ (n : ℕ). take (n - m) (drop m block)) (sym whole) ∙ part_to_end m block
