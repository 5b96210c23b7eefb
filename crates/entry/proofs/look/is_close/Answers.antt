-- `look::is_close`: a test that fails refutes one field of a close; after all four the body decides.
-- Assumes nothing.
use mathlib.Core.Bool.{false≢true}
use mathlib.Core.Path.{sym, ap, ◌∙◌}
use mathlib.Core.List.{List}
use Prim.Native.Nat.{ℕ}
use Rattle.rules.specs.Entry.{body_of}
use Rattle.rules.specs.Notation.{is_erased}
use Rattle.rules.proofs.Format.Look.{no-close, close-body}
use Rattle.entry.proofs.Laws.{rest_of_block}
use Rattle.entry.proofs.look.is_close.Goals as goal

pub returns-then-cycle_in-cycle : goal.returns-then-cycle_in-cycle
returns-then-cycle_in-cycle c = sym (no-close _ _ (λ f. c.if-cycle_in-cycle.true (c.cycle_in.ensures ∙ f.right_cycle)))

pub returns-then-not-is_checked : goal.returns-then-not-is_checked
returns-then-not-is_checked c = sym (no-close _ _ (λ f. false≢true (sym (c.if-not-is_checked.true) ∙ c.is_checked.ensures ∙ f.right_check)))

pub returns-then-id_in-ne-RESERVED_ID : goal.returns-then-id_in-ne-RESERVED_ID
returns-then-id_in-ne-RESERVED_ID c = sym (no-close _ _ (λ f. c.if-id_in-ne-RESERVED_ID.true (c.id_in.ensures ∙ f.reserved)))

pub returns-then-length_in-ne0 : goal.returns-then-length_in-ne0
returns-then-length_in-ne0 c = sym (no-close _ _ (λ f. c.if-length_in-ne0.true (c.length_in.ensures ∙ f.empty)))

pub returns : goal.returns
unfolding body_of
returns c = let block : List ℕ = c.args.block.now in
    c.is_erased.ensures
    ∙ ap is_erased (rest_of_block 8 block c.told-block)
    ∙ sym
    (close-body _ block (sym c.cycle_in.ensures ∙ c.if-cycle_in-cycle.false) (sym c.is_checked.ensures ∙ c.if-not-is_checked.false)
    (sym c.id_in.ensures ∙ c.if-id_in-ne-RESERVED_ID.false) (sym c.length_in.ensures ∙ c.if-length_in-ne0.false))
