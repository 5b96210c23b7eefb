-- `look::lead`: a test that fails refutes one field of a lead, and all five are a lead.
-- Assumes nothing.
use mathlib.Core.Bool.{false≢true}
use mathlib.Core.Path.{sym, ap, ◌∙◌}
use Prim.Native.Nat.{ℕ}
use Rattle.std.specs.Prelude.{Some}
use Rattle.rules.proofs.Format.Look.{Leads, no_lead, lead-found}
use Rattle.layout.specs.Options.{option_as}
use Rattle.entry.proofs.look.lead.Goals as goal

pub returns-then-not-is_checked : goal.returns-then-not-is_checked
returns-then-not-is_checked c = sym (ap option_as (no_lead _ (λ f. false≢true (sym (c.if-not-is_checked.true) ∙ c.is_checked.ensures ∙ f.right_check))))

pub returns-then-id_in-ne-RESERVED_ID : goal.returns-then-id_in-ne-RESERVED_ID
returns-then-id_in-ne-RESERVED_ID c = sym (ap option_as (no_lead _ (λ f. c.if-id_in-ne-RESERVED_ID.true (c.id_in.ensures ∙ f.reserved))))

pub returns-then-length_in-ne-LEAD_LENGTH : goal.returns-then-length_in-ne-LEAD_LENGTH
returns-then-length_in-ne-LEAD_LENGTH c = sym (ap option_as (no_lead _ (λ f. c.if-length_in-ne-LEAD_LENGTH.true (c.length_in.ensures ∙ f.long))))

pub returns-then-offset_in-ne0 : goal.returns-then-offset_in-ne0
returns-then-offset_in-ne0 c = sym (ap option_as (no_lead _ (λ f. c.if-offset_in-ne0.true (c.offset_in.ensures ∙ f.zero))))

pub returns-then-crc32_in-ne-LEAD_MARK : goal.returns-then-crc32_in-ne-LEAD_MARK
returns-then-crc32_in-ne-LEAD_MARK c = sym (ap option_as (no_lead _ (λ f. c.if-crc32_in-ne-LEAD_MARK.true (c.crc32_in.ensures ∙ f.marked))))

pub returns : goal.returns
returns c = let block = c.args.block.now in
    let f : Leads block = record {
      right_check = sym c.is_checked.ensures ∙ c.if-not-is_checked.false;
      reserved = sym c.id_in.ensures ∙ c.if-id_in-ne-RESERVED_ID.false;
      long = sym c.length_in.ensures ∙ c.if-length_in-ne-LEAD_LENGTH.false;
      zero = sym c.offset_in.ensures ∙ c.if-offset_in-ne0.false;
      marked = sym c.crc32_in.ensures ∙ c.if-crc32_in-ne-LEAD_MARK.false;
    } in
    ap (λ (n : ℕ). Some n) c.cycle_in.ensures ∙ sym (ap option_as (lead-found block f))
