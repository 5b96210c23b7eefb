-- What was built is recognised as what it is, and under no other cycle as anything.
use mathlib.Core.Path.{◌≡◌, refl, sym, ap, ◌∙◌}
use mathlib.Core.Bool.{true, false}
use mathlib.Core.List.{List, ◌++◌}
use mathlib.Core.Option.{some}
use Prim.Native.Nat.{ℕ, ◌*◌, ◌-◌, ◌<◌, ◌≤◌, ◌^◌}
use native.Mathlib.Omega.{arith}
use lib.ListN.{length}
use lib.Seq.{drop_at}
use borrow.Author.Tests.{eq-eqb}
use Rattle.rules.specs.Notation.{number_of, erased, is_erased}
use Rattle.rules.specs.Ground.{Block, block_size, reserved_id}
use Rattle.rules.specs.Entry.{length_of, id_of, encode, numbers, lead_length, lead_mark, lead_block, close_block, done_block, deletion_block, small_value_block, long_value_block}
use Rattle.rules.specs.Look.{is_lead, lead_cycle, is_close, Head, done, deletion, value, Scan, entry, form_of, head_of, judge, look}
use Rattle.rules.proofs.Basics.Notation.{when_true, refuted, erased-is, is-erased, length-erased}
use Rattle.rules.proofs.Format.Entry.{Fit, checked-encode, cycle-encode, length-of-encode, id-encode, body-encode, length-encode, length-numbers, first-number, length-padded, offset-encode, crc32-encode}
use Rattle.rules.proofs.Format.Look.{Kind, is-done, is-deletion, is-small-value, is-long-value, kind-form, look-entry, other-cycle-close}

-- an erased block would have the reserved ID and the length of a lead
erased-id : (block : Block) → length block ≡ block_size → is_erased block ≡ true → (id_of block ≡ reserved_id) × (length_of block ≡ lead_length)
unfolding id_of length_of number_of erased
erased-id block n e =
    let whole : block ≡ erased block_size = is-erased block e ∙ ap erased n in
    (ap id_of whole, ap length_of whole)

-- so what was encoded with another ID or another length is not blank
module _ (cycle len id : ℕ) (body : List ℕ) (fit : Fit len id body) (other : id ≡ reserved_id → len ≡ lead_length → ⊥) where
  not-blank : is_erased (encode cycle len id body) ≡ false
  not-blank =
      refuted (is_erased (encode cycle len id body))
      (λ e.
      let (i, l) = erased-id (encode cycle len id body) (length-encode cycle len id body fit.whole) e in
      other (sym (id-encode cycle len id body fit.named) ∙ i) (sym (length-of-encode cycle len id body fit.short) ∙ l))

  -- under its own cycle an encoded block is judged by its fields
  pub look-encode : (B : ℕ) (scan : Scan) → look B cycle scan (encode cycle len id body) ≡ judge B scan (form_of scan.data_end id len body)
  unfolding look head_of
  look-encode B scan =
      simp (not-blank, cycle-encode cycle len id body, eq-eqb cycle cycle refl, checked-encode cycle len id body, id-encode cycle len id body fit.named, length-of-encode cycle len id body fit.short, body-encode cycle len id body)

  -- so a block of any kind of entry is judged as that
  pub look-kind : (B : ℕ) (scan : Scan) {head : Head} → Kind scan.data_end id len body head → look B cycle scan (encode cycle len id body) ≡ judge B scan (some head)
  look-kind B scan k = look-encode B scan ∙ ap (judge B scan) (kind-form scan.data_end id len body k)

-- Each kind, under its cycle and after any reading: `judge` alone decides whether it still counts.
pub look-done : (B cycle : ℕ) (scan : Scan) → look B cycle scan (done_block cycle) ≡ judge B scan (some done)
unfolding done_block close_block
look-done B cycle scan =
    look-kind cycle 0 reserved_id (erased 8)
    (record { short = omega arith; named = omega arith; whole = length-erased 8 })
    (λ _ e. omega arith) B scan
    (is-done refl refl (erased-is 8))

module _ (B cycle id : ℕ) (scan : Scan) (named : id < 2 ^ 32) (user : id ≡ reserved_id → ⊥) where
  pub look-deletion : look B cycle scan (deletion_block cycle id) ≡ judge B scan (some (deletion id))
  unfolding deletion_block
  look-deletion =
      look-kind cycle 0 id (erased 8)
      (record { short = omega arith; named = named; whole = length-erased 8 })
      (λ e _. user e) B scan
      (is-deletion user refl (erased-is 8))

  pub look-small-value : (bytes : List ℕ) → 1 ≤ length bytes → length bytes ≤ 8
      → look B cycle scan (small_value_block cycle id bytes) ≡ judge B scan (some (value id (length bytes)))
  unfolding small_value_block
  look-small-value bytes one few =
      let pad : List ℕ = erased (8 - length bytes) in
      look-kind cycle (length bytes) id (bytes ++ pad)
      (record { short = omega arith; named = named; whole = length-padded bytes few })
      (λ e _. user e) B scan
      (is-small-value user one few (ap is_erased (drop_at bytes pad (length bytes) refl) ∙ erased-is (8 - length bytes)))

  pub look-long-value : (len crc : ℕ) → 8 < len → len < 2 ^ 16 → scan.data_end * block_size < 2 ^ 32
      → look B cycle scan (long_value_block cycle id len (scan.data_end * block_size) crc) ≡ judge B scan (some (value id len))
  unfolding long_value_block
  look-long-value len crc many short near =
      let offset : ℕ = scan.data_end * block_size in
      look-kind cycle len id (numbers offset crc)
      (record { short = short; named = named; whole = length-numbers offset crc })
      (λ e _. user e) B scan
      (is-long-value user many (first-number offset crc near))

pub lead-built : (cycle : ℕ) → lead_cycle (lead_block cycle) ≡ some cycle
unfolding lead_cycle is_lead lead_block
lead-built cycle =
    let body : List ℕ = numbers 0 lead_mark in
    simp (checked-encode cycle lead_length reserved_id body, id-encode cycle lead_length reserved_id body (omega arith), length-of-encode cycle lead_length reserved_id body (omega arith), offset-encode cycle lead_length reserved_id 0 lead_mark (omega arith), crc32-encode cycle lead_length reserved_id 0 lead_mark (omega arith), cycle-encode cycle lead_length reserved_id body, when_true)

pub close-built : (cycle : ℕ) → is_close cycle (close_block cycle) ≡ true
unfolding is_close close_block
close-built cycle =
    simp (cycle-encode cycle 0 reserved_id (erased 8), eq-eqb cycle cycle refl, checked-encode cycle 0 reserved_id (erased 8), id-encode cycle 0 reserved_id (erased 8) (omega arith), length-of-encode cycle 0 reserved_id (erased 8) (omega arith), body-encode cycle 0 reserved_id (erased 8), erased-is)

-- What was built under one cycle is no entry and no close under any other.
module _ (B cycle other len id : ℕ) (body : List ℕ) (scan : Scan) (differ : cycle ≡ other → ⊥) where
  pub built-other-entry : {head : Head} → look B other scan (encode cycle len id body) ≡ entry head → ⊥
  built-other-entry e = differ (sym (cycle-encode cycle len id body) ∙ (look-entry B other scan (encode cycle len id body) e).right_cycle)

  pub built-other-close : is_close other (encode cycle len id body) ≡ false
  built-other-close =
      other-cycle-close other (encode cycle len id body) (λ e. differ (sym (cycle-encode cycle len id body) ∙ e))
