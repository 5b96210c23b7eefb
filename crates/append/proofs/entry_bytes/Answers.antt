-- `entry_bytes`: each arm knows its head's constructor, at which the entry is made as it is due: by its length a value lies in the
-- entry, or its data at the offset.
-- Assumes nothing.
use mathlib.Core.Path.{◌≡◌, sym, ap, ◌∙◌}
use Prim.Native.Nat.{ℕ}
use native.Mathlib.Omega.{arith}
use lib.ListN.{length}
use Rattle.rules.specs.Stores.{entry_block}
use Rattle.rules.proofs.Blocks.Stored.{stored-done, stored-deletion, stored-small, stored-long}
use Rattle.entry.specs.declared.Head.{Head}
use Rattle.entry.specs.declared.Head.TheVariants.{Value}
use Rattle.entry.specs.Answer.{length_of}
use Rattle.append.specs.Append.{entry_for, entry_of}
use Rattle.append.proofs.entry_bytes.Goals as goal
use Rattle.append.proofs.entry_bytes.Goals.{Start}

-- the block that is due, by the head
as-due : (k : Start) {h : Head} → k.args.entry.now.head ≡ h
    → entry_block k.args.active.cycle k.args.active.scan.data_end (entry_for h k.args.entry.now.value.now)
    ≡ entry_block k.args.active.cycle k.args.active.scan.data_end (entry_of k.args.entry.now)
as-due k same = ap (λ (x : Head). entry_block k.args.active.cycle k.args.active.scan.data_end (entry_for x k.args.entry.now.value.now)) (sym same)

-- the length that the head tells
told : (k : Start) {id len : ℕ} → k.args.entry.now.head ≡ Value id len → len ≡ length k.args.entry.now.value.now
told k same = sym (ap length_of same) ∙ k.args.entry.now.sized

pub returns-in-Done : goal.returns-in-Done
returns-in-Done c = c.done.ensures ∙ sym (stored-done _ _) ∙ as-due (goal.at.returns-in-Done c).Start c.in-Done.is

pub returns-in-Deletion : goal.returns-in-Deletion
returns-in-Deletion c = c.deletion.ensures ∙ sym (stored-deletion _ _ _) ∙ as-due (goal.at.returns-in-Deletion c).Start c.in-Deletion.is

pub returns-in-Value : goal.returns-in-Value
returns-in-Value c =
    let k = (goal.at.returns-in-Value c).Start in
    c.small_value.ensures
    ∙ sym (stored-small _ _ _ c.args.entry.now.value.now (omega (arith, told k c.in-Value.is, c.if-from-le-SMALL.true, c.from.ensures)))
    ∙ as-due k c.in-Value.is

pub returns-in-Value-2 : goal.returns-in-Value-2
returns-in-Value-2 c =
    let k = (goal.at.returns-in-Value-2 c).Start in
    rw (c.crc32-check.ensures, told k c.in-Value-2.is) at c.long_value.ensures
    ∙ sym (stored-long _ _ _ c.args.entry.now.value.now (omega (arith, told k c.in-Value.is, c.if-from-le-SMALL.false, c.from.ensures)))
    ∙ as-due k c.in-Value-2.is
