-- `look::head_of`: the four kinds of form are those of `form_of`, by the same tests. The parts that are read are the block's fields.
-- Assumes nothing.
use Rattle.std.specs.Prelude.{Some, option_map}
use Rattle.std.specs.Bool.{then_some}
use Rattle.std.specs.Prelude as code
use mathlib.Core.Bool.{Bool, true, false, ◌&&◌}
use mathlib.Core.Path.{◌≡◌, refl, sym, ap, ap₂, ◌∙◌}
use mathlib.Core.List.{List}
use mathlib.Core.Option.{Option}
use Prim.Native.Nat.{ℕ, ◌+◌, ◌*◌, ◌≤◌, ◌<◌}
use lib.Dec.{eqb}
use lib.ListN.{take, drop}
use lib.Seq.{drop-drop}
use borrow.Author.Tests.{eq-eqb, ne_eqb, le-leb, lt-leb}
use Rattle.rules.specs.Notation.{when, number_of, is_erased}
use Rattle.rules.specs.Ground.{block_size, reserved_id}
use Rattle.rules.specs.Entry.{offset_of, id_of, length_of, body_of}
use Rattle.rules.specs.Look as rule
use Rattle.rules.specs.Look.{form_of}
use Rattle.layout.specs.Options.{option_as}
use Rattle.entry.specs.declared.Head.{Head}
use Rattle.entry.specs.declared.Head.TheVariants.{Done, Deletion, Value}
use Rattle.entry.specs.Answer.{head_as, head_of}
use Rattle.entry.proofs.Laws.{head-as-of, rest_of_block}
use Rattle.entry.proofs.look.head_of.Goals as goal
use Rattle.entry.proofs.look.head_of.Goals.{then-length-eq0, else-length-eq0}

-- a head where the test holds, here and in the rules
told-when : (b : Bool) (head : Head) → then_some b head ≡ option_map head_as (option_as (when b (head_of head)))
unfolding when
told-when true head = ap (λ (h : Head). Some h) (sym (head-as-of head))
told-when false head = refl

module _ (block : List ℕ) (data_end : ℕ) {id len : ℕ} (id-read : id ≡ id_of block) (len-read : len ≡ length_of block) where
  told : {r : code.Option Head} (b : Bool) (head : Head) → r ≡ then_some b head → form_of data_end id len (body_of block) ≡ when b (head_of head)
      → r ≡ option_map head_as (option_as (rule.head_of data_end block))
  unfolding rule.head_of
  told b head answer form =
      answer ∙ told-when b head
      ∙ ap (λ (o : Option rule.Head). option_map head_as (option_as o))
      (sym form ∙ ap₂ (λ (i n : ℕ). form_of data_end i n (body_of block)) id-read len-read)

module _ (data_end id len : ℕ) (body : List ℕ) where
  done-form : id ≡ reserved_id → form_of data_end id len body ≡ when (eqb len 0 && is_erased body) rule.done
  unfolding form_of
  done-form reserved = simp (eq-eqb _ _ reserved)

  module _ (other : id ≡ reserved_id → ⊥) where
    deletion-form : len ≡ 0 → form_of data_end id len body ≡ when (is_erased body) (rule.deletion id)
    unfolding form_of
    deletion-form none = simp (ne_eqb _ _ other, eq-eqb _ _ none)

    module _ (some : len ≡ 0 → ⊥) where
      small-form : len ≤ 8 → form_of data_end id len body ≡ when (is_erased (drop len body)) (rule.value id len)
      unfolding form_of
      small-form small = simp (ne_eqb _ _ other, ne_eqb _ _ some, le-leb _ _ small)

      long-form : 8 < len → form_of data_end id len body ≡ when (eqb (number_of (take 4 body)) (data_end * block_size)) (rule.value id len)
      unfolding form_of
      long-form long = simp (ne_eqb _ _ other, ne_eqb _ _ some, lt-leb _ _ long)

pub returns-after-length-eq0 : goal.returns-after-length-eq0
unfolding body_of
returns-after-length-eq0 c =
    let block : List ℕ = c.args.block.now in
    let test : c.if-length-eq0.then_some ≡ (eqb c.length_in-told.result 0 && is_erased (drop 8 block)) = elim c.if-length-eq0.branch [
      | then-length-eq0 w ↦ w.then_some-is ∙ rw (eq-eqb _ _ w.if-length-eq0.true) (w.is_erased.ensures ∙ ap is_erased (rest_of_block 8 block c.told-block))
      | else-length-eq0 w ↦ w.then_some-is ∙ rw (ne_eqb _ _ w.if-length-eq0.false)
    ] in
    told block _ c.id_in-id.ensures c.length_in-told.ensures _ Done c.then_some.ensures (done-form _ _ _ _ c.if-id.true ∙ ap (λ (b : Bool). when b rule.done) (sym test))

pub returns-then-length-eq0-2 : goal.returns-then-length-eq0-2
unfolding body_of
returns-then-length-eq0-2 c =
    let block : List ℕ = c.args.block.now in
    let test = c.is_erased-then-length-eq0-2.ensures ∙ ap is_erased (rest_of_block 8 block c.told-block) in
    told block _ c.id_in-id.ensures c.length_in-told.ensures _ (Deletion _) c.then_some-then-length-eq0-2.ensures
    (deletion-form _ _ _ _ c.if-id.false c.if-length-eq0-2.true ∙ ap (λ (b : Bool). when b (rule.deletion c.id_in-id.result)) (sym test))

pub returns-then-length-le-SMALL : goal.returns-then-length-le-SMALL
unfolding body_of
returns-then-length-le-SMALL c =
    let block : List ℕ = c.args.block.now in
    let len = c.length_in-told.result in
    let test = c.is_erased-then-length-le-SMALL.ensures ∙ ap is_erased (rest_of_block (8 + len) block c.told-block ∙ sym (drop-drop len 8 block)) in
    told block _ c.id_in-id.ensures c.length_in-told.ensures _ (Value _ _) c.then_some-then-length-le-SMALL.ensures
    (small-form _ _ _ _ c.if-id.false c.if-length-eq0-2.false c.if-length-le-SMALL.true ∙ ap (λ (b : Bool). when b (rule.value c.id_in-id.result len)) (sym test))

pub returns-else-length-le-SMALL : goal.returns-else-length-le-SMALL
unfolding body_of offset_of
returns-else-length-le-SMALL c =
    let block : List ℕ = c.args.block.now in
    let len = c.length_in-told.result in
    told block _ c.id_in-id.ensures c.length_in-told.ensures _ (Value _ _) c.then_some-else-length-le-SMALL.ensures
    (long-form _ _ _ _ c.if-id.false c.if-length-eq0-2.false c.if-length-le-SMALL.false
    ∙ ap (λ (n : ℕ). when (eqb n (c.args.data_end * block_size)) (rule.value c.id_in-id.result len)) (sym c.offset_in-offset.ensures))
