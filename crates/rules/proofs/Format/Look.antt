-- Laws of the looks: what each finds, in the paper's words, and that nothing is two things.
use Rattle.std.specs.Prelude.{if◌then◌else◌}
use mathlib.Core.Path.{◌≡◌, refl, sym, ap, subst, ◌∙◌}
use mathlib.Core.Bool.{Bool, true, false, not, ◌&&◌, false≢true}
use mathlib.Core.List.{List}
use mathlib.Core.Logic.{⊎_elim}
use mathlib.Core.Option.{Option, none, some}
use Prim.Native.Nat.{ℕ, ◌+◌, ◌*◌, ◌/◌, ◌<◌, ◌≤◌}
use native.Mathlib.Omega.{arith}
use lib.Dec.{eqb, leb}
use lib.ListN.{take, drop}
use borrow.Author.Tests.{eq-eqb, ne_eqb, le-leb, lt-leb, eqb-true, eqb-false, leb-true, leb-false, not-false}
use Rattle.rules.specs.Notation.{number_of, erased, is_erased}
use Rattle.rules.specs.Ground.{Block, block_size, reserved_id, blank_block}
use Rattle.rules.specs.Entry.{cycle_of, length_of, id_of, body_of, offset_of, crc32_of, lead_length, lead_mark}
use Rattle.rules.specs.Look.{is_checked, is_lead, lead_cycle, is_close, Head, done, deletion, value, data_blocks, Scan, Verdict, entry, blank, other_cycle, wrong_check, wrong_form, over_limit, form_of, head_of, is_within, is_entry, judge, look}
use Rattle.rules.proofs.Basics.Notation.{took-else, took-then, if-cases, when-some, when_true, when_false, both_true, refuted, erased-is}

-- A value has at most as many data blocks as bytes.
pub data-blocks-le : (len : ℕ) → data_blocks len ≤ len
unfolding data_blocks
data-blocks-le len = go (leb len 8) refl
  where
    go : (t : Bool) → leb len 8 ≡ t → (if t then 0 else (len + 15) / block_size) ≤ len
    go true e = omega arith
    go false e = omega (arith, leb-false len 8 e)

-- the two cases of their number
pub need-blocks : (len : ℕ) → (8 < len → data_blocks len ≡ (len + 15) / block_size) × (len ≤ 8 → data_blocks len ≡ 0)
unfolding data_blocks
need-blocks len = (λ h. simp (lt-leb len 8 h), λ h. simp (le-leb len 8 h))

-- The kinds of the paper's list, by their fields.
pub data Kind (data_end id len : ℕ) (body : List ℕ) : Head → Type 0 where
  is-done : id ≡ reserved_id → len ≡ 0 → is_erased body ≡ true → Kind data_end id len body done
  is-deletion : (id ≡ reserved_id → ⊥) → len ≡ 0 → is_erased body ≡ true → Kind data_end id len body (deletion id)
  is-small-value : (id ≡ reserved_id → ⊥) → 1 ≤ len → len ≤ 8 → is_erased (drop len body) ≡ true → Kind data_end id len body (value id len)
  is-long-value : (id ≡ reserved_id → ⊥) → 8 < len → number_of (take 4 body) ≡ data_end * block_size → Kind data_end id len body (value id len)

-- A head is given only where the fields are of its kind.
pub form-kind : (data_end id len : ℕ) (body : List ℕ) {head : Head} → form_of data_end id len body ≡ some head → Kind data_end id len body head
unfolding form_of
form-kind data_end id len body {head} e =
    ⊎_elim
    (λ r.
    let (test, same) = when-some (eqb len 0 && is_erased body) done r.1 in
    let (empty, padded) = both_true (eqb len 0) (is_erased body) test in
    cast same (is-done (eqb-true id reserved_id r.0) (eqb-true len 0 empty) padded))
    (λ r. let other : id ≡ reserved_id → ⊥ = eqb-false id reserved_id r.0 in
    ⊎_elim
    (λ d.
    let (padded, same) = when-some (is_erased body) (deletion id) d.1 in
    cast same (is-deletion other (eqb-true len 0 d.0) padded))
    (λ v. let some_bytes : len ≡ 0 → ⊥ = eqb-false len 0 v.0 in
    ⊎_elim
    (λ small.
    let (padded, same) = when-some (is_erased (drop len body)) (value id len) small.1 in
    cast same (is-small-value other (omega arith) (leb-true len 8 small.0) padded))
    (λ long.
    let (placed, same) = when-some (eqb (number_of (take 4 body)) (data_end * block_size)) (value id len) long.1 in
    cast same (is-long-value other (leb-false len 8 long.0) (eqb-true _ _ placed)))
    (if-cases (leb len 8) _ _ v.1))
    (if-cases (eqb len 0) _ _ r.1))
    (if-cases (eqb id reserved_id) _ _ e)
  where
    cast : {h : Head} → h ≡ head → Kind data_end id len body h → Kind data_end id len body head
    cast same k = subst (λ (x : Head). Kind data_end id len body x) same k

-- and there it is given
pub kind-form : (data_end id len : ℕ) (body : List ℕ) {head : Head} → Kind data_end id len body head → form_of data_end id len body ≡ some head
unfolding form_of
kind-form data_end id len body (is-done reserved empty padded) = simp (eq-eqb id reserved_id reserved, eq-eqb len 0 empty, padded, when_true)
kind-form data_end id len body (is-deletion other empty padded) = simp (ne_eqb id reserved_id other, eq-eqb len 0 empty, padded, when_true)
kind-form data_end id len body (is-small-value other one few padded) = simp (ne_eqb id reserved_id other, ne_eqb len 0 (omega arith), le-leb len 8 few, padded, when_true)
kind-form data_end id len body (is-long-value other many placed) = simp (ne_eqb id reserved_id other, ne_eqb len 0 (omega arith), lt-leb len 8 many, eq-eqb (number_of (take 4 body)) (data_end * block_size) placed, when_true)

-- A look that finds an entry found each thing that the rules ask.
pub record Counts (B cycle : ℕ) (scan : Scan) (block : Block) (head : Head) : Type 0 where
  pub not_blank : is_erased block ≡ false
  pub right_cycle : cycle_of block ≡ cycle
  pub right_check : is_checked block ≡ true
  pub right_form : head_of scan.data_end block ≡ some head
  pub within : is_within B scan head ≡ true

-- a reason why a block is none is no entry
none-entry : (v : Verdict) {head : Head} → is_entry v ≡ false → v ≡ entry head → ⊥
unfolding is_entry
none-entry v n e = false≢true (sym n ∙ ap is_entry e)

entry-injective : {h head : Head} → entry h ≡ entry head → h ≡ head
entry-injective e = cc

judge-entry : (B : ℕ) (scan : Scan) (form : Option Head) {head : Head} → judge B scan form ≡ entry head → (form ≡ some head) × (is_within B scan head ≡ true)
unfolding judge is_entry
judge-entry B scan none e = absurd (none-entry wrong_form refl e)
judge-entry B scan (some h) {head} e =
    let (w, same) = took-then (is_within B scan h) (entry h) over_limit (none-entry over_limit refl) e in
    let same_head : h ≡ head = entry-injective same in
    (ap (λ (x : Head). some x) same_head, ap (λ (x : Head). is_within B scan x) (sym same_head) ∙ w)

-- The verdict on a form: none is wrong, and a head counts exactly where its sector still takes it.
pub judge-none : (B : ℕ) (scan : Scan) → judge B scan none ≡ wrong_form
unfolding judge
judge-none B scan = refl

pub judge-within : (B : ℕ) (scan : Scan) (head : Head) → is_within B scan head ≡ true → judge B scan (some head) ≡ entry head
unfolding judge
judge-within B scan head e = simp e

pub judge-over : (B : ℕ) (scan : Scan) (head : Head) → is_within B scan head ≡ false → judge B scan (some head) ≡ over_limit
unfolding judge
judge-over B scan head e = simp e

pub look-entry : (B cycle : ℕ) (scan : Scan) (block : Block) {head : Head} → look B cycle scan block ≡ entry head → Counts B cycle scan block head
unfolding look is_entry
look-entry B cycle scan block e =
    let (not-erased, e₁) = took-else (is_erased block) blank _ (none-entry blank refl) e in
    let (same-cycle, e₂) = took-else (not (eqb (cycle_of block) cycle)) other_cycle _ (none-entry other_cycle refl) e₁ in
    let (right-check, e₃) = took-else (not (is_checked block)) wrong_check _ (none-entry wrong_check refl) e₂ in
    let (form, limit) = judge-entry B scan (head_of scan.data_end block) e₃ in
    record { not_blank = not-erased; right_cycle = eqb-true _ _ (not-false _ same-cycle); right_check = not-false _ right-check; right_form = form; within = limit }

-- Under another cycle nothing is an entry, and nothing a close.
pub other-cycle : (B cycle : ℕ) (scan : Scan) (block : Block) {head : Head} → (cycle_of block ≡ cycle → ⊥) → look B cycle scan block ≡ entry head → ⊥
other-cycle B cycle scan block other e = other (look-entry B cycle scan block e).right_cycle

-- A close is right in each of its fields.
pub record Closes (cycle : ℕ) (block : Block) : Type 0 where
  pub right_cycle : cycle_of block ≡ cycle
  pub right_check : is_checked block ≡ true
  pub reserved : id_of block ≡ reserved_id
  pub empty : length_of block ≡ 0
  pub padded : is_erased (body_of block) ≡ true

pub close-fields : (cycle : ℕ) (block : Block) → is_close cycle block ≡ true → Closes cycle block
unfolding is_close
close-fields cycle block e =
    let (e₃, body) = both_true _ (is_erased (body_of block)) e in
    let (e₂, len) = both_true _ (eqb (length_of block) 0) e₃ in
    let (e₁, id) = both_true _ (eqb (id_of block) reserved_id) e₂ in
    let (same, check) = both_true (eqb (cycle_of block) cycle) (is_checked block) e₁ in
    record { right_cycle = eqb-true _ _ same; right_check = check; reserved = eqb-true _ _ id; empty = eqb-true _ _ len; padded = body }

-- with the fields before it right, the body decides
pub close-body : (cycle : ℕ) (block : Block) → cycle_of block ≡ cycle → is_checked block ≡ true → id_of block ≡ reserved_id → length_of block ≡ 0
    → is_close cycle block ≡ is_erased (body_of block)
unfolding is_close
close-body cycle block same check reserved empty =
    simp (eq-eqb (cycle_of block) cycle same, check, eq-eqb (id_of block) reserved_id reserved, eq-eqb (length_of block) 0 empty)

-- a block with a wrong field is none
pub no-close : (cycle : ℕ) (block : Block) → (Closes cycle block → ⊥) → is_close cycle block ≡ false
no-close cycle block never = refuted (is_close cycle block) (λ e. never (close-fields cycle block e))

pub other-cycle-close : (cycle : ℕ) (block : Block) → (cycle_of block ≡ cycle → ⊥) → is_close cycle block ≡ false
other-cycle-close cycle block other = no-close cycle block (λ f. other f.right_cycle)

-- A lead is right in each of its fields.
pub record Leads (block : Block) : Type 0 where
  pub right_check : is_checked block ≡ true
  pub reserved : id_of block ≡ reserved_id
  pub long : length_of block ≡ lead_length
  pub zero : offset_of block ≡ 0
  pub marked : crc32_of block ≡ lead_mark

pub lead-fields : (block : Block) → is_lead block ≡ true → Leads block
unfolding is_lead
lead-fields block e =
    let (e₃, mark) = both_true _ (eqb (crc32_of block) lead_mark) e in
    let (e₂, none-set) = both_true _ (eqb (offset_of block) 0) e₃ in
    let (e₁, len) = both_true _ (eqb (length_of block) lead_length) e₂ in
    let (check, id) = both_true (is_checked block) (eqb (id_of block) reserved_id) e₁ in
    record { right_check = check; reserved = eqb-true _ _ id; long = eqb-true _ _ len; zero = eqb-true _ _ none-set; marked = eqb-true _ _ mark }

pub lead-found : (block : Block) → Leads block → lead_cycle block ≡ some (cycle_of block)
unfolding lead_cycle is_lead
lead-found block f =
    simp (f.right_check, eq-eqb _ _ f.reserved, eq-eqb _ _ f.long, eq-eqb _ _ f.zero, eq-eqb _ _ f.marked, when_true)

-- a block with a wrong field is none
pub no_lead : (block : Block) → (Leads block → ⊥) → lead_cycle block ≡ none
unfolding lead_cycle
no_lead block never = simp (refuted (is_lead block) (λ e. never (lead-fields block e)), when_false)

-- Bench sheet, row 7: a blank block is no entry, lead or close, under any cycle and after any reading.
pub blank-no-entry : (B cycle : ℕ) (scan : Scan) → look B cycle scan blank_block ≡ blank
unfolding look blank_block
blank-no-entry B cycle scan = simp erased-is

pub blank-no-lead : is_lead blank_block ≡ false
unfolding blank_block erased offset_of number_of
blank-no-lead =
    refuted (is_lead blank_block) (λ e. let zero : offset_of blank_block ≡ 0 = (lead-fields blank_block e).zero in omega arith)

pub blank-no-close : (cycle : ℕ) → is_close cycle blank_block ≡ false
unfolding blank_block erased length_of number_of
blank-no-close cycle =
    no-close cycle blank_block (λ f. let empty : length_of blank_block ≡ 0 = f.empty in omega arith)

-- Close and done differ by place alone: in an entry block, a close's bytes are a done's, and the other way round.
pub close-is-done : (cycle data_end : ℕ) (block : Block) → is_close cycle block ≡ true → head_of data_end block ≡ some done
unfolding head_of
close-is-done cycle data_end block e =
    let f : Closes cycle block = close-fields cycle block e in
    kind-form data_end (id_of block) (length_of block) (body_of block) (is-done f.reserved f.empty f.padded)

done-fields : {data_end id len : ℕ} {body : List ℕ} → Kind data_end id len body done → (id ≡ reserved_id) × (len ≡ 0) × (is_erased body ≡ true)
done-fields (is-done reserved empty padded) = (reserved, empty, padded)

pub done-is-close : (cycle data_end : ℕ) (block : Block) → cycle_of block ≡ cycle → is_checked block ≡ true → head_of data_end block ≡ some done → is_close cycle block ≡ true
unfolding head_of
done-is-close cycle data_end block same check e =
    let (reserved, empty, padded) = done-fields (form-kind data_end (id_of block) (length_of block) (body_of block) e) in
    close-body cycle block same check reserved empty ∙ padded

-- A lead is no entry, and no close.
pub lead-no-head : (data_end : ℕ) (block : Block) → is_lead block ≡ true → head_of data_end block ≡ none
unfolding head_of form_of
lead-no-head data_end block e =
    let f : Leads block = lead-fields block e in
    let not-empty : length_of block ≡ 0 → ⊥ = λ z. omega (arith, f.long) in
    simp (eq-eqb (id_of block) reserved_id f.reserved, ne_eqb (length_of block) 0 not-empty, when_false)

pub lead-no-close : (cycle : ℕ) (block : Block) → is_lead block ≡ true → is_close cycle block ≡ false
lead-no-close cycle block e =
    no-close cycle block (λ f. omega (arith, (lead-fields block e).long, f.empty))
